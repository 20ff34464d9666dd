-- The loader answers what the definition reads, and leaves the content in the tables. The cases of the reading are taken one after
-- another: length, format, tables, cells, expression.
-- Assumes nothing.
use mathlib.Core.Path.{◌≡◌, refl}
use mathlib.Core.Bool.{Bool, true, false}
use mathlib.Core.List.{List}
use Prim.Native.Nat.{ℕ, ◌+◌, ◌*◌, ◌<◌, ◌≤◌}
use native.Mathlib.Nat.{zero-add}
use native.Mathlib.Omega.{arith}
use lib.Dec.{eqb, ltb}
use lib.ListN.{length, get_or, take}
use lib.Seq.{length-take-le, get_or-take}
use borrow.Author.Tests.{ltb-false}
use Rattle.std.proofs.Common.{Ok, Err}
use Rattle.choice.specs.Choice.{choose_both}
use Rattle.cells.specs.Code.{Small}
use Rattle.cells.specs.declared.Kind.TheVariants.{Int}
use Rattle.calculus.specs.Expr.{Expr, nodes}
use Rattle.calculus.specs.declared.Fault.{Fault}
use Rattle.image.specs.Content.{format_one, Tables, Placed, Content}
use Rattle.image.specs.Parsing.{Parsed, got, refused, number}
use Rattle.image.specs.Image.{read_format, read_tables, read_placed, read_expr, read_image}
use Rattle.image.specs.Tabled.{Spans, Held}
use Rattle.image.specs.Answers.{refusal}
use Rattle.image.specs.Tabling.{tables_into, placed_into, front_into}
use Rattle.image.specs.Filling.{expression_answer, expression_into}
use Rattle.image.specs.Loaded.{LoadedTables, loaded_tables, load_into, sizes, sizes_of, loading}
use Rattle.image.specs.declared.Format.{Format}
use Rattle.image.specs.declared.Sizes.{Sizes}
use Rattle.image.proofs.Gives.{Gives, gives, gives_none, gives_then, gives_test, gives_by}
use Rattle.image.proofs.Each.{Each}
use Rattle.image.proofs.Numbers.{number_gives}
use Rattle.image.specs.Shape.{height, Scoped, Known, SmallExpr}
use Rattle.image.proofs.Shapes.{Whole, expr_good, known_small}
use Rattle.image.proofs.Rows.{RowsKept, spans_kept}
use Rattle.image.proofs.Noded.{expression_result, expression_spans, expression_kept}
use Rattle.image.proofs.StructLaws.{StructTable}
use Rattle.image.proofs.TypeLaws.{TypeTable, code_at}
use Rattle.image.proofs.CellLaws.{Rising, cells_small, CellTable}
use Rattle.image.proofs.FrontLaws.{kinds_small, TablesOpened, tables_fill, tables_opened, tables_unopened, TablesGood, TablesRead, tables_give, PlacedRead, placed_give, PlacedAre, PlacedOpened, placed_fill, placed_opened, placed_unopened}

-- the tables as the loader leaves them: each holds its part of the content where there is room for it, the rest as it was
pub record ContentHeld (ss ts cs ns : List ℕ) (c : Content) (ss' ts' cs' ns' : List ℕ) : Type 0 where
  pub structs_table : 17 * length c.tables.structs ≤ length ss → StructTable (length c.tables.structs) ss c.tables.structs ss'
  pub types_table : TypeTable (length c.tables.types) ts c.tables.types ts'
  pub cells_table : 3 * length c.cells ≤ length cs → CellTable (length c.cells) cs c.cells cs'
  pub nodes_table : 4 * nodes c.expr ≤ length ns → Spans ns' 0 c.expr
  pub nodes_kept : RowsKept ns 0 (nodes c.expr) ns'

pub data LoadAre (ss ts cs ns : List ℕ) : Parsed Content → LoadedTables → Type 0 where
  load_are : {c : Content} {next : ℕ} {ss' ts' cs' ns' : List ℕ} → ContentHeld ss ts cs ns c ss' ts' cs' ns'
      → LoadAre ss ts cs ns (got c next) (loaded_tables (Ok (sizes_of c)) ss' ts' cs' ns')
  load_refused : {f : Fault} {p : ℕ} {ss' ts' cs' ns' : List ℕ}
      → LoadAre ss ts cs ns (refused f p) (loaded_tables (Err (refusal f p)) ss' ts' cs' ns')

counted : {ss ts cs ns : List ℕ} {c : Content} {n : Sizes} {next : ℕ} {ss' ts' cs' ns' : List ℕ} → n ≡ sizes_of c
    → ContentHeld ss ts cs ns c ss' ts' cs' ns' → LoadAre ss ts cs ns (got c next) (loaded_tables (Ok n) ss' ts' cs' ns')
counted e h = rw e (load_are h)

module _ (words : ℕ) (image ss ts cs ns : List ℕ) (room : 256 ≤ length ts) where
  abbrev Are : Type 0
  Are = LoadAre ss ts cs ns (read_image words image) (load_into words image ss ts cs ns)

  module _ {m : Format} {at₁ at₂ : ℕ} {t : Tables} (short : ltb 16384 (length image) ≡ false) (e₁ : read_format image ≡ got m at₁)
      (e₂ : read_tables image at₁ ≡ got t at₂) where
    o : TablesOpened ss ts t at₂ (tables_into image at₁ ss ts)
    o = tables_opened (rw e₂ at (tables_fill image at₁ ss ts room))

    -- the codes of the word types that were read
    abbrev codes : List ℕ
    codes = take (o.T + 1) (tables_into image at₁ ss ts).types

    placed_all : PlacedAre cs (read_placed words image t at₂) (placed_into image words (tables_into image at₁ ss ts).types (o.T + 1) at₂ cs)
    placed_all =
        rw o.held.types_count
        (placed_fill words image t (tables_into image at₁ ss ts).types (code_at o.held.types_table o.held.types_count) at₂ cs)

    module _ {ps : List Placed} {at₃ : ℕ} (e₃ : read_placed words image t at₂ ≡ got ps at₃) where
      p : PlacedOpened cs ps at₃ (placed_into image words (tables_into image at₁ ss ts).types (o.T + 1) at₂ cs)
      p = placed_opened (rw e₃ at placed_all)

      answer : (expression_into image codes o.S at₃ ns).result ≡ expression_answer 0 (read_expr image t at₃)
      answer =
          expression_result image t codes o.S o.held.types_table.codes o.held.structs_count at₃ ns

      held : {e : Expr} {at₄ : ℕ} → read_expr image t at₃ ≡ got e at₄
          → ContentHeld ss ts cs ns (record { format = m; tables = t; cells = ps; expr = e })
          (tables_into image at₁ ss ts).structs (tables_into image at₁ ss ts).types
          (placed_into image words (tables_into image at₁ ss ts).types (o.T + 1) at₂ cs).table
          (expression_into image codes o.S at₃ ns).table
      held e₄ =
          record {
            structs_table = rw o.held.structs_count at o.held.structs_table;
            types_table = rw o.held.types_count at o.held.types_table;
            cells_table = rw p.count at p.table_of;
            nodes_table =
                expression_spans image t codes o.S o.held.types_table.codes o.held.structs_count at₃ ns e₄;
            nodes_kept =
                expression_kept image t codes o.S o.held.types_table.codes o.held.structs_count at₃ ns e₄;
          }

      counted_as : (e : Expr) → sizes m o.S (o.T + 1) p.C (0 + nodes e) ≡ sizes_of (record { format = m; tables = t; cells = ps; expr = e })
      counted_as e = rw (o.held.structs_count, o.held.types_count, p.count, zero-add)

      expr_case : (r : Parsed Expr) → read_expr image t at₃ ≡ r → Are
      unfolding read_image load_into front_into
      expr_case (got e at₄) e₄ =
          rw (short, e₁, e₂, e₃, o.answer, p.answer, answer, e₄)
          (choose_both (LoadAre ss ts cs ns) (ltb at₄ (length image)) _ _ _ _ load_refused (counted (counted_as e) (held e₄)))
      expr_case (refused f q) e₄ = rw (short, e₁, e₂, e₃, o.answer, p.answer, answer, e₄) load_refused

    cells_case : (r : Parsed (List Placed)) → read_placed words image t at₂ ≡ r → Are
    unfolding read_image load_into front_into
    cells_case (got ps at₃) e₃ = expr_case e₃ (read_expr image t at₃) refl
    cells_case (refused f p) e₃ =
        let q = placed_unopened (rw e₃ at placed_all) in
        rw (short, e₁, e₂, e₃, o.answer, q) load_refused

  tables_case : {m : Format} {at₁ : ℕ} → ltb 16384 (length image) ≡ false → read_format image ≡ got m at₁ → (r : Parsed Tables)
      → read_tables image at₁ ≡ r → Are
  unfolding read_image load_into front_into
  tables_case {m} {at₁} short e₁ (got t at₂) e₂ = cells_case short e₁ e₂ (read_placed words image t at₂) refl
  tables_case {m} {at₁} short e₁ (refused f p) e₂ =
      let q = tables_unopened (rw e₂ at (tables_fill image at₁ ss ts room)) in
      rw (short, e₁, e₂, q) load_refused

  format_case : ltb 16384 (length image) ≡ false → (r : Parsed Format) → read_format image ≡ r → Are
  unfolding read_image load_into front_into
  format_case short (got m at₁) e₁ = tables_case short e₁ (read_tables image at₁) refl
  format_case short (refused f p) e₁ = rw (short, e₁) load_refused

  length_case : (b : Bool) → ltb 16384 (length image) ≡ b → Are
  unfolding read_image load_into front_into
  length_case true long = rw long load_refused
  length_case false short = format_case short (read_format image) refl

  pub load_fill : LoadAre ss ts cs ns (read_image words image) (load_into words image ss ts cs ns)
  load_fill = length_case (ltb 16384 (length image)) refl

load_answers : {ss ts cs ns : List ℕ} {r : Parsed Content} {F : LoadedTables} → LoadAre ss ts cs ns r F → F.result ≡ loading r
load_answers (load_are h) = refl
load_answers load_refused = refl

load_leaves : {ss ts cs ns : List ℕ} {c : Content} {next : ℕ} {F : LoadedTables} → LoadAre ss ts cs ns (got c next) F
    → ContentHeld ss ts cs ns c F.structs F.types F.cells F.nodes
load_leaves (load_are h) = h

-- What `load` answers is what the definition reads: content by its counts, or the refusal.
pub load_result : (words : ℕ) (image ss ts cs ns : List ℕ) → 256 ≤ length ts → (load_into words image ss ts cs ns).result ≡ loading (read_image words image)
load_result words image ss ts cs ns room = load_answers (load_fill words image ss ts cs ns room)

-- The content stands in the tables.
pub load_held : (words : ℕ) (image ss ts cs ns : List ℕ) → 256 ≤ length ts → {c : Content} {next : ℕ} → read_image words image ≡ got c next
    → let F = load_into words image ss ts cs ns in ContentHeld ss ts cs ns c F.structs F.types F.cells F.nodes
load_held words image ss ts cs ns room e = load_leaves (rw e at (load_fill words image ss ts cs ns room))

-- Where there is room for all of it, the fronts of the tables hold the content.
pub held_all : {ss ts cs ns : List ℕ} {c : Content} {ss' ts' cs' ns' : List ℕ} → ContentHeld ss ts cs ns c ss' ts' cs' ns'
    → 17 * length c.tables.structs ≤ length ss → 3 * length c.cells ≤ length cs → 4 * nodes c.expr ≤ length ns
    → Held c (take (17 * length c.tables.structs) ss') (take (length c.tables.types) ts') (take (3 * length c.cells) cs')
    (take (4 * nodes c.expr) ns')
held_all {ns = ns} {c = c} {ns' = ns'} h s k n =
    record {
      structs_held = (h.structs_table s).held;
      types_held = h.types_table.codes;
      cells_held = (h.cells_table k).rows;
      nodes_held = spans_kept (h.nodes_table n) (λ i _ l. get_or-take (4 * nodes c.expr) ns' i 0 (omega (arith, zero-add (nodes c.expr))));
      nodes_fill = length-take-le (4 * nodes c.expr) ns' (omega (arith, h.nodes_kept.long));
    }

-- what holds of the content of every image that is not refused
pub record ContentRead (words : ℕ) (image : List ℕ) (c : Content) (next : ℕ) : Type 0 where
  pub format_is : c.format ≡ format_one
  pub tables_good : TablesGood c.tables
  pub few_cells : length c.cells ≤ 4096
  pub cells_rise : Rising words c.tables.types 0 c.cells
  pub few_nodes : nodes c.expr ≤ 2048
  pub low : height c.expr ≤ 64
  pub scoped : Scoped 0 c.expr
  pub expr_known : Known c.tables c.expr
  pub bytes : 3 * length c.cells + nodes c.expr < length image
  pub short : length image ≤ 16384
  pub ends : next ≡ length image

-- the format is 1's
format_gives : (image : List ℕ) → Gives (λ m next. m ≡ format_one) (read_format image)
unfolding read_format
format_gives image =
    gives_then (number image 0) _ (number_gives image 0)
    (λ v at _. gives_test (eqb v 1) _ _ (λ _. gives refl) (λ _. gives_none))

pub content_gives : (words : ℕ) (image : List ℕ) → Gives (ContentRead words image) (read_image words image)
unfolding read_image
content_gives words image =
    gives_test (ltb 16384 (length image)) _ _ (λ _. gives_none)
    (λ short. gives_then (read_format image) _ (format_gives image)
    (λ m at₁ one. gives_then (read_tables image at₁) _ (tables_give image at₁)
    (λ t at₂ s. gives_then (read_placed words image t at₂) _ (placed_give words image t at₂)
    (λ ps at₃ p. gives_then (read_expr image t at₃) _ (gives_by (read_expr image t at₃) (λ e at₄ q. expr_good image t at₃ q))
    (λ e at₄ w. gives_test (ltb at₄ (length image)) _ _ (λ _. gives_none)
    (λ all. gives (content m at₁ t at₂ ps at₃ e at₄ (ltb-false 16384 (length image) short) one s p w (ltb-false at₄ (length image) all))))))))
  where
    content : (m : Format) (at₁ : ℕ) (t : Tables) (at₂ : ℕ) (ps : List Placed) (at₃ : ℕ) (e : Expr) (at₄ : ℕ) → length image ≤ 16384 → m ≡ format_one
        → TablesRead image at₁ t at₂ → PlacedRead image words t.types at₂ ps at₃ → Whole image t at₃ e at₄ → length image ≤ at₄
        → ContentRead words image (record { format = m; tables = t; cells = ps; expr = e }) at₄
    content m at₁ t at₂ ps at₃ e at₄ l one s p w all =
        record {
          format_is = one;
          tables_good = s.good;
          few_cells = p.few;
          cells_rise = p.rises;
          few_nodes = w.few;
          low = w.low;
          scoped = w.scoped;
          expr_known = w.known;
          bytes = omega (arith, p.onward, w.long, w.ends);
          short = l;
          ends = omega (arith, w.ends);
        }

-- the numbers of every kind in it fit the packed code
pub content_small : {words : ℕ} {image : List ℕ} {c : Content} {next : ℕ} → ContentRead words image c next
    → SmallExpr c.expr × Each (λ p. Small p.held.kind) c.cells
content_small {c = c} r =
    let small : (n : ℕ) → n < length c.tables.types → Small (get_or c.tables.types n Int) = kinds_small r.tables_good in (
      known_small c.tables r.tables_good.few_types (omega (arith, r.tables_good.few_structs)) small r.expr_known,
      cells_small small r.cells_rise,
    )
