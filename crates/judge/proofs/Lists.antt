-- Of a number in a table of rows: it is that of the list if the row is whole. And of marks: those that are wiped from the front are in the
-- end all 0.
use mathlib.Core.Path.{◌≡◌, refl, ◌∙◌}
use mathlib.Core.Bool.{Bool, true, false}
use mathlib.Core.List.{List, ◌++◌, append-nil}
use Prim.Native.Nat.{ℕ, ◌+◌, ◌*◌, ◌/◌, ◌≤◌, ◌<◌}
use native.Mathlib.Omega.{arith}
use lib.Dec.{ltb}
use lib.ListN.{length, get_or, drop, replicate}
use lib.Seq.{drop-length}
use borrow.Author.Tests.{lt-ltb, ltb-true}
use Rattle.choice.specs.Choice.{choose}
use Rattle.judge.specs.Rows.{table_number}

module _ (width : ℕ) (table : List ℕ) (i k : ℕ) where
  pub in_row_lem : i < length table / width → table_number width table i k ≡ get_or table (width * i + k) 0
  unfolding table_number
  in_row_lem h = rw (lt-ltb i (length table / width) h)

  -- a number other than 0 is in a row of the table
  pub has_number : (table_number width table i k ≡ 0 → ⊥) → i < length table / width
  unfolding table_number
  has_number n = go (ltb i (length table / width)) (ltb-true i (length table / width)) n
    where
      go : (t : Bool) → (t ≡ true → i < length table / width)
          → (choose t (λ _. get_or table (width * i + k) 0) (λ _. 0) ≡ 0 → ⊥) → i < length table / width
      go true f m = f refl
      go false f m = absurd (m refl)

-- ---- marks

-- a list of which the first i are 0 and that has no more than i is all 0
pub all_wiped : (entry marks : List ℕ) (i : ℕ) → marks ≡ replicate i 0 ++ drop i entry → length marks ≡ length entry → length marks ≤ i
    → i ≤ length entry → marks ≡ replicate (length entry) 0
all_wiped entry marks i e l h b =
    let f : i ≡ length entry = omega arith in
    e ∙ rw (f, drop-length, append-nil)
