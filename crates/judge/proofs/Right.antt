-- The judge's answer is the definition's: for tables that hold an image's content as its reader leaves it, and lent lists with room, the
-- verdict is that of the executable judge over the image's setting, heap and expression.
use mathlib.Core.Path.{◌≡◌, refl, ap}
use mathlib.Core.List.{List, [], ◌∷◌, map}
use Prim.Native.Nat.{ℕ, zero, suc, ◌/◌}
use native.Mathlib.Omega.{arith}
use lib.ListN.{length, get_or}
use Rattle.cells.specs.Code.{packed}
use Rattle.cells.specs.declared.Mode.TheVariants.{Checked}
use Rattle.cells.specs.declared.Kind.{Kind}
use Rattle.cells.specs.declared.Kind.TheVariants.{Int}
use Rattle.cells.proofs.Codes.{round_trip}
use Rattle.calculus.specs.Typing.{whole}
use Rattle.calculus.specs.Judge.{Verdict, good, judged}
use Rattle.image.specs.Content.{Content, setting_of, heap_of}
use Rattle.image.specs.Tabled.{Held}
use Rattle.tables.specs.Kinds.{HoldsSetting}
use Rattle.judge.specs.Premises.{Readied}
use Rattle.judge.specs.Literals.{first_bad}
use Rattle.judge.specs.Addresses.{entries}
use Rattle.judge.specs.Nodes.{Judging}
use Rattle.judge.specs.Script.{as_judged, as_verdict, judged_script}
use Rattle.judge.proofs.HeldTables.{HoldsHeap}
use Rattle.judge.proofs.Entries.{entries_rows, holds_heap}
use Rattle.judge.proofs.PassLaws.{FirstBad, first_bad_lem}
use Rattle.judge.proofs.NodeLaws.{bounds_none, Meets, meets_good, meets_bad, meets}

-- a code of the table is that of the kind with its number; past the end both are int
code_of_lem : (ts : List Kind) (n : ℕ) → get_or (map packed ts) n 1 ≡ packed (get_or ts n Int)
unfolding packed
code_of_lem [] n = refl
code_of_lem (κ ∷ ts) zero = refl
code_of_lem (κ ∷ ts) (suc n) = code_of_lem ts n

module _ {words : ℕ} {c : Content} {structs types cells table marks queue bound : List ℕ}
    (h : Held c structs types cells table) (r : Readied words c marks queue bound) where
  holds_setting : HoldsSetting (setting_of words c) structs types
  holds_setting =
      record {
        count = h.structs_held.count;
        fields = h.structs_held.fields;
        codes = λ n. rw h.types_held (code_of_lem c.tables.types n);
        small = r.types_small;
        bytes = r.fields_small;
      }

  holds_cells : HoldsHeap (heap_of words c.cells) cells
  holds_cells = rw h.cells_held (holds_heap r.cells_rise)

  count_cells : entries cells ≡ length c.cells
  count_cells = rw h.cells_held (entries_rows c.cells)

  bad_literal : FirstBad (setting_of words c) (heap_of words c.cells) table (first_bad structs types cells table marks queue).first
  bad_literal =
      first_bad_lem holds_setting holds_cells table marks queue (omega (arith, count_cells, r.marks_room)) (omega (arith, count_cells, r.queue_room))

  -- a verdict that meets the definition's says the same
  same_verdict : {first end : ℕ} {Γ : List Kind} {v : Verdict} {j : Judging} → Meets first Γ bound end v j → as_verdict (as_judged j.told) ≡ v
  same_verdict (meets_good s b l e) = ap good (round_trip s)
  same_verdict meets_bad = refl

  pub right : as_verdict (judged_script structs types cells table marks queue bound).verdict
      ≡ judged (setting_of words c) (heap_of words c.cells) c.expr
  right =
      same_verdict
      (meets holds_setting bad_literal h.nodes_held r.expr_small whole [] Checked (length table / 4) bound (omega (arith, h.nodes_fill))
      (omega (arith, h.nodes_fill)) (omega arith) (bounds_none bound) (omega (arith, r.bound_room)))
