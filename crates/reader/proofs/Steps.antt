-- What the reader of nodes does at each of its returns, as its model says.
use Prim.Native.Nat.{ℕ, zero, suc, ◌-◌, ◌≤◌, ◌<◌}
use mathlib.Core.Path.{◌≡◌, ◌∙◌, ap}
use mathlib.Core.Bool.{Bool}
use mathlib.Core.List.{List}
use native.Mathlib.Omega.{arith}
use borrow.Author.Tests.{le-leb, lt-leb}
use Rattle.std.proofs.Common.{Err}
use Rattle.calculus.specs.Operations.{operation_of}
use Rattle.calculus.specs.declared.Fault.{Fault}
use Rattle.calculus.specs.declared.Fault.TheVariants as fault
use Rattle.image.specs.Parsing.{got, refused, number}
use Rattle.image.specs.Answers.{refusal}
use Rattle.image.specs.Filled.{filled}
use Rattle.reader.specs.Cursors.{ReadingAt}
use Rattle.reader.specs.Reads.{operation_rows, node_rows, part_rows}

-- ---- a node by its code
module _ (image : List ℕ) (known structs deep lets : ℕ) (inside : Bool) (cursor : ReadingAt) (t : List ℕ) where
  -- a fault of the code's own number goes first
  no_code_at : (deep : ℕ) {f : Fault} {p : ℕ} → number image cursor.offset ≡ refused f p
      → node_rows image known structs deep lets inside cursor t ≡ filled (Err (refusal f p)) t
  unfolding node_rows
  no_code_at zero e = rw e
  no_code_at (suc deep) e = rw e

  pub no_code : {f : Fault} {p : ℕ} → number image cursor.offset ≡ refused f p
      → node_rows image known structs deep lets inside cursor t ≡ filled (Err (refusal f p)) t
  no_code = no_code_at deep

  -- then one level too many
  pub too_deep_lem : {v next : ℕ} → number image cursor.offset ≡ got v next → deep ≡ 0
      → node_rows image known structs deep lets inside cursor t ≡ filled (Err (refusal fault.Limit cursor.offset)) t
  unfolding node_rows
  too_deep_lem e z = rw (z, e)

  module _ {v next : ℕ} (e : number image cursor.offset ≡ got v next) (some : deep ≡ 0 → ⊥) where
    is_suc : deep ≡ suc (deep - 1)
    is_suc = omega arith

    -- then one node too many
    pub too_many : 2048 ≤ cursor.nodes
        → node_rows image known structs deep lets inside cursor t ≡ filled (Err (refusal fault.Limit cursor.offset)) t
    unfolding node_rows
    too_many l = rw (is_suc, e, le-leb 2048 cursor.nodes l)

    -- then the operation
    opened_at : (deep : ℕ) → cursor.nodes < 2048
        → node_rows image known structs (suc deep) lets inside cursor t
        ≡ operation_rows image known structs (part_rows image known structs deep) lets inside cursor (operation_of v) next t
    unfolding node_rows
    opened_at deep l = rw (e, lt-leb 2048 cursor.nodes l)

    pub by_operation : cursor.nodes < 2048
        → node_rows image known structs deep lets inside cursor t
        ≡ operation_rows image known structs (part_rows image known structs (deep - 1)) lets inside cursor (operation_of v) next t
    by_operation l = ap (λ (deep : ℕ). node_rows image known structs deep lets inside cursor t) is_suc ∙ opened_at (deep - 1) l
