-- What reading an image sees to, as the judge and the machine want it: for the content of every image that reads without fault, with
-- tables that hold it and enough room beside them, the judge's and the machine's contracts speak of the definitions.
use Prim.Native.Nat.{ℕ, ◌*◌, ◌≤◌, ◌<◌}
use mathlib.Core.Path.{◌≡◌, refl, ap}
use mathlib.Core.List.{List, []}
use native.Mathlib.Decide.{dec_lt}
use native.Mathlib.Omega.{arith}
use lib.ListN.{length, get_or, get_or-eq_default}
use Rattle.cells.specs.Code.{Small, small_int}
use Rattle.cells.specs.Lent.{lent}
use Rattle.cells.specs.declared.Kind.{Kind}
use Rattle.cells.specs.declared.Kind.TheVariants.{Int}
use Rattle.calculus.specs.Expr.{Expr, lit, var, malloc, bind, one, two}
use Rattle.image.specs.Content.{Content, Placed, Tables, setting_of, heap_of}
use Rattle.image.specs.declared.Format.{Format}
use Rattle.image.specs.Shape.{height}
use Rattle.image.specs.Tabled.{Held}
use Rattle.image.proofs.Each.{each_at}
use Rattle.image.proofs.CellLaws as read
use Rattle.image.proofs.FrontLaws.{TablesGood, kinds_small}
use Rattle.image.proofs.LoadLaws.{ContentRead, content_small}
use Rattle.judge.specs.Premises.{Readied, CellsRise, none, more, nested}
use Rattle.machine.specs.Ready.{Ready}
use Rattle.codlinbell.specs.Prepared.{whole_heap}
use Rattle.codlinbell.proofs.Heaps.{heap_length, heap_small}

-- What holds of a list's elements and of what stands past its end holds at every index.
everywhere : {A : Type 0} (P : A → Type 0) (l : List A) (d : A) → P d → ((i : ℕ) → i < length l → P (get_or l i d)) → (i : ℕ) → P (get_or l i d)
everywhere P l d past inside i = go (dec_lt i (length l))
  where
    go : Dec (i < length l) → P (get_or l i d)
    go (yes h) = inside i h
    go (no h) = let k : length l ≤ i = omega arith in rw (get_or-eq_default l d k) past

-- Every kind of the type table fits its code, past the table's end too.
types_small : {t : Tables} → TablesGood t → (n : ℕ) → Small (get_or t.types n Int)
types_small {t} g = everywhere Small t.types Int small_int (kinds_small g)

-- Every field's number fits a kind, past the table's and the struct's end too.
fields_small : {t : Tables} → TablesGood t → (s i : ℕ) → get_or (get_or t.structs s []) i 0 < 256
fields_small {t} g =
    everywhere (λ fs. (i : ℕ) → get_or fs i 0 < 256) t.structs [] (everywhere (λ n. n < 256) [] 0 (omega arith) (λ i h. absurd (omega arith)))
    (λ s h. let f = each_at g.fields s [] h in
    everywhere (λ n. n < 256) (get_or t.structs s []) 0 (omega arith) (λ i k. let few = g.few_types in omega (arith, each_at f.each_known i 0 k)))

-- The cells rise, and their kinds fit their codes.
cells_rise : {words : ℕ} {types : List Kind} {before : ℕ} {ps : List Placed} → ((n : ℕ) → Small (get_or types n Int)) → read.Rising words types before ps
    → CellsRise words before ps
cells_rise small read.rising_none = none
cells_rise small (read.rising {n = n} {p = p} h l v k e r) = more {p = p} h l (rw e (small n)) (cells_rise small r)

-- No expression nests more lets than it is deep.
nested_low : (e : Expr) → nested e ≤ height e
unfolding nested height
nested_low (lit n κ) = omega arith
nested_low (var k) = omega arith
nested_low (malloc ω) = omega arith
nested_low (bind a b) = omega (arith, nested_low a, nested_low b)
nested_low (one o e) = omega (arith, nested_low e)
nested_low (two o a b) = omega (arith, nested_low a, nested_low b)

module _ {words : ℕ} {image : List ℕ} {c : Content} {next : ℕ} (r : ContentRead words image c next) where
  pub rising : CellsRise words 0 c.cells
  rising = cells_rise (types_small r.tables_good) r.cells_rise

  -- The judge's contract speaks of the definition.
  pub readied : (marks queue bound : List ℕ) → length c.cells ≤ length marks → length c.cells ≤ length queue → 64 ≤ length bound
      → Readied words c marks queue bound
  readied marks queue bound m q b =
      record {
        cells_rise = rising;
        types_small = types_small r.tables_good;
        fields_small = fields_small r.tables_good;
        expr_small = (content_small r).0;
        marks_room = m;
        queue_room = q;
        bound_room = omega (arith, nested_low c.expr, r.low);
      }

  -- So does the machine's, over the content's heap, all of which malloc may use.
  pub ready : (limit : ℕ) (ws heap frames bound structs types cells table : List ℕ) → Held c structs types cells table
      → heap ≡ lent (heap_of words c.cells) ws → 256 ≤ length frames → 128 ≤ length bound → words ≤ 4096 → 2 * words ≤ length ws
      → Ready (setting_of words c) (whole_heap words limit) (heap_of words c.cells) c.expr ws heap frames bound table structs types
  ready limit ws heap frames bound structs types cells table held e f b few room =
      record {
        width_is = ap (λ (m : Format). m.width) r.format_is;
        low_is = refl;
        high_is = refl;
        low_above = omega arith;
        high_within = omega arith;
        nodes_held = held.nodes_held;
        nodes_fill = held.nodes_fill;
        structs_held = held.structs_held;
        types_held = held.types_held;
        fields_small = fields_small r.tables_good;
        types_small = types_small r.tables_good;
        expr_small = (content_small r).0;
        expr_scoped = r.scoped;
        frames_room = omega (arith, r.low);
        bound_room = omega (arith, r.low);
        heap_held = e;
        heap_small = heap_small rising;
        heap_long = heap_length words c.cells;
        heap_room = room;
        words_few = few;
      }
