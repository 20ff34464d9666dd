-- The numbers after a row was put: the row has them, the others are as they were, and the numbers are as many.
use Prim.Native.Nat.{ℕ, ◌+◌, ◌*◌, ◌/◌, ◌<◌, ◌≤◌}
use mathlib.Core.Path.{◌≡◌, refl, ◌∙◌}
use mathlib.Core.Bool.{Bool}
use mathlib.Core.List.{List}
use native.Mathlib.Omega.{arith}
use native.Mathlib.Decide.{dec_lt}
use lib.Dec.{ltb}
use lib.ListN.{length, length-set, get_or, set}
use lib.Seq.{get_or-set_same, get_or-set_other}
use borrow.Author.Tests.{lt-ltb, le-ltb}
use Rattle.choice.specs.Choice.{choose_case}
use Rattle.tables.specs.Heads.{task_in, head_number}
use Rattle.tables.specs.Rows.{whole_rows, head_at, datum_at, put_row, stop, work_of, inside_mode, task_row, task_row_of, task_row_at}
use Rattle.tables.specs.declared.Task.{Task}
use Rattle.tables.proofs.Fields.{task_head, inside_head, slot_head, left_head, node_head}

-- a row's numbers where there is the row
in_head : (rows : List ℕ) (p : ℕ) → p < whole_rows rows → head_at rows p ≡ get_or rows (2 * p) 0
unfolding head_at
in_head rows p l = rw (lt-ltb p (length rows / 2) l)

in_datum : (rows : List ℕ) (p : ℕ) → p < whole_rows rows → datum_at rows p ≡ get_or rows (2 * p + 1) 0
unfolding datum_at
in_datum rows p l = rw (lt-ltb p (length rows / 2) l)

module _ (rows : List ℕ) (p head datum : ℕ) where
  put_there : p < whole_rows rows → put_row rows p head datum ≡ set (set rows (2 * p) head) (2 * p + 1) datum
  unfolding put_row
  put_there l = rw (lt-ltb p (length rows / 2) l)

  put_nowhere : whole_rows rows ≤ p → put_row rows p head datum ≡ rows
  unfolding put_row
  put_nowhere l = rw (le-ltb p (length rows / 2) l)

  pub length_row : length (put_row rows p head datum) ≡ length rows
  unfolding put_row
  length_row =
      choose_case
      (λ (t : List ℕ). length t ≡ length rows)
      (ltb p (length rows / 2))
      (λ _. set (set rows (2 * p) head) (2 * p + 1) datum)
      (λ _. rows)
      (simp length-set)
      refl

  pub head_there : p < whole_rows rows → head_at (put_row rows p head datum) p ≡ head
  head_there l =
      in_head (put_row rows p head datum) p (rw length_row l)
      ∙ rw (put_there l, get_or-set_other (set rows (2 * p) head) (2 * p + 1) (2 * p) datum 0 (λ e. omega arith))
      (get_or-set_same rows (2 * p) head 0 (omega arith))

  pub datum_there : p < whole_rows rows → datum_at (put_row rows p head datum) p ≡ datum
  datum_there l =
      in_datum (put_row rows p head datum) p (rw length_row l)
      ∙ rw (put_there l) (get_or-set_same (set rows (2 * p) head) (2 * p + 1) datum 0 (simp length-set (omega arith)))

  pub head_elsewhere : (j : ℕ) → (j ≡ p → ⊥) → head_at (put_row rows p head datum) j ≡ head_at rows j
  unfolding head_at
  head_elsewhere j n = go (dec_lt p (length rows / 2))
    where
      go : Dec (p < length rows / 2) → head_at (put_row rows p head datum) j ≡ head_at rows j
      go (yes l) =
          rw (
            length_row,
            put_there l,
            get_or-set_other (set rows (2 * p) head) (2 * p + 1) (2 * j) datum 0 (λ e. omega arith),
            get_or-set_other rows (2 * p) (2 * j) head 0 (λ e. omega arith),
          )
      go (no m) = rw (put_nowhere (omega arith))

  pub datum_elsewhere : (j : ℕ) → (j ≡ p → ⊥) → datum_at (put_row rows p head datum) j ≡ datum_at rows j
  unfolding datum_at
  datum_elsewhere j n = go (dec_lt p (length rows / 2))
    where
      go : Dec (p < length rows / 2) → datum_at (put_row rows p head datum) j ≡ datum_at rows j
      go (yes l) =
          rw (
            length_row,
            put_there l,
            get_or-set_other (set rows (2 * p) head) (2 * p + 1) (2 * j + 1) datum 0 (λ e. omega arith),
            get_or-set_other rows (2 * p) (2 * j + 1) head 0 (λ e. omega arith),
          )
      go (no m) = rw (put_nowhere (omega arith))

module _ (types rows : List ℕ) (p head datum : ℕ) where
  -- the row says what its numbers say
  pub row_put_lem : p < whole_rows rows → task_row_at types (put_row rows p head datum) p ≡ task_row_of types head datum
  unfolding task_row_at
  row_put_lem l = rw (head_there rows p head datum l, datum_there rows p head datum l)

  pub row_elsewhere : (j : ℕ) → (j ≡ p → ⊥) → task_row_at types (put_row rows p head datum) j ≡ task_row_at types rows j
  unfolding task_row_at
  row_elsewhere j n = rw (head_elsewhere rows p head datum j n, datum_elsewhere rows p head datum j n)

-- what the numbers of a head made of fields that fit say
pub row_made : (types : List ℕ) (t : Task) (b : Bool) (slot left node datum : ℕ) → slot < 512 → left < 8192 → node < 4096
    → task_row_of types (head_number t b slot left node) datum ≡ task_row (work_of types t slot datum) (inside_mode b) left node
row_made types t b slot left node datum s l n =
    rw (
      task_head t b slot left node,
      inside_head t b slot left node,
      slot_head t b slot left node s,
      left_head t b slot left node l,
      node_head t b slot left node n,
    )

-- a row that doesn't stop is one of the table's
pub row_inside : (types rows : List ℕ) (p : ℕ) → ((task_row_at types rows p).work ≡ stop → ⊥) → p < whole_rows rows
unfolding task_row_at head_at task_in
row_inside types rows p h = go (dec_lt p (length rows / 2))
  where
    go : Dec (p < length rows / 2) → p < length rows / 2
    go (yes l) = l
    go (no n) = absurd (h (rw (le-ltb p (length rows / 2) (omega arith))))
