-- Numbers that were written to a table in a row: what stands at each index, and the table before and behind them; and rows of a table.
-- Assumes nothing.
use mathlib.Core.Path.{◌≡◌, refl, ◌∙◌, ap}
use mathlib.Core.List.{List, [], ◌∷◌, ◌++◌}
use Prim.Native.Nat.{ℕ, zero, suc, ◌+◌, ◌*◌, ◌/◌, ◌<◌, ◌≤◌, min}
use native.Mathlib.Nat.{zero-add, zero-min, suc-min-suc}
use native.Mathlib.Omega.{arith}
use lib.ListN.{length, get_or, set, take, drop, length-set}
use lib.Dec.{ltb}
use lib.Seq.{sets, sets-eq, drop-drop, length-sets, get_or-set_same, get_or-set_other, take_at, drop_at, take-nil}
use borrow.Rule.Slice.PartMut.{put_mid}
use borrow.Author.Tests.{lt-ltb, le-ltb}
use Rattle.std.proofs.Common.{append_assoc}
use Rattle.choice.specs.Choice.{choose_case}
use Rattle.image.specs.Filled.{row_stored}

-- what stands before the numbers is as it was
pub sets_before : (t : List ℕ) (to : ℕ) (ns : List ℕ) (i : ℕ) → i < to → get_or (sets t to ns) i 0 ≡ get_or t i 0
sets_before t to [] i h = refl
sets_before t to (n ∷ ns) i h = sets_before (set t to n) (suc to) ns i (omega arith) ∙ get_or-set_other t to i n 0 (omega arith)

-- and what stands behind them
pub sets_behind : (t : List ℕ) (to : ℕ) (ns : List ℕ) (i : ℕ) → to + length ns ≤ i → get_or (sets t to ns) i 0 ≡ get_or t i 0
sets_behind t to [] i h = refl
sets_behind t to (n ∷ ns) i h = sets_behind (set t to n) (suc to) ns i (omega arith) ∙ get_or-set_other t to i n 0 (omega arith)

-- the numbers themselves
pub sets_there : (t : List ℕ) (to : ℕ) (ns : List ℕ) (j : ℕ) → to + length ns ≤ length t → j < length ns
    → get_or (sets t to ns) (to + j) 0 ≡ get_or ns j 0
sets_there t to [] j l h = absurd (omega arith)
sets_there t to (n ∷ ns) zero l h =
    let e : to + 0 ≡ to = omega arith in
    rw e (sets_before (set t to n) (suc to) ns to (omega arith) ∙ get_or-set_same t to n 0 (omega arith))
sets_there t to (n ∷ ns) (suc j) l h =
    let e : to + suc j ≡ suc to + j = omega arith in
    rw e (sets_there (set t to n) (suc to) ns j (omega (arith, length-set t to n)) (omega arith))

-- three or four numbers, one store after another
module _ (t : List ℕ) (to a b c : ℕ) where
  pub sets_three : set (set (set t to a) (to + 1) b) (to + 2) c ≡ sets t to (a ∷ b ∷ c ∷ [])
  sets_three =
      let one : to + 1 ≡ suc to = omega arith in
      let two : to + 2 ≡ suc (suc to) = omega arith in
      rw (one, two)

  pub sets_four : (d : ℕ) → set (set (set (set t to a) (to + 1) b) (to + 2) c) (to + 3) d ≡ sets t to (a ∷ b ∷ c ∷ d ∷ [])
  sets_four d = let three : to + 3 ≡ suc (suc (suc to)) = omega arith in rw (sets_three, three)

-- a part of the table that was written anew
pub put_mid_sets : (a k : ℕ) (t ns : List ℕ) → k ≡ length ns → a + k ≤ length t → put_mid a k t ns ≡ sets t a ns
put_mid_sets a k t ns e h = rw (sets-eq ns t a (omega arith), e, drop-drop (length ns) a t, append_assoc)

-- a row of a table
module _ (width : ℕ) (t : List ℕ) (i : ℕ) (row : List ℕ) where
  pub stored_there : i < length t / width → row_stored width t i row ≡ sets t (width * i) row
  unfolding row_stored
  stored_there h = rw (lt-ltb i (length t / width) h)

  pub stored_none : length t / width ≤ i → row_stored width t i row ≡ t
  unfolding row_stored
  stored_none h = rw (le-ltb i (length t / width) h)

  pub stored_length : length (row_stored width t i row) ≡ length t
  unfolding row_stored
  stored_length = choose_case (λ (l : List ℕ). length l ≡ length t) (ltb i (length t / width)) _ _ (length-sets t (width * i) row) refl

  pub stored_before : (k : ℕ) → k < width * i → get_or (row_stored width t i row) k 0 ≡ get_or t k 0
  unfolding row_stored
  stored_before k h =
      choose_case (λ (l : List ℕ). get_or l k 0 ≡ get_or t k 0) (ltb i (length t / width)) _ _ (sets_before t (width * i) row k h) refl

  pub stored_behind : (k : ℕ) → width * i + length row ≤ k → get_or (row_stored width t i row) k 0 ≡ get_or t k 0
  unfolding row_stored
  stored_behind k h =
      choose_case (λ (l : List ℕ). get_or l k 0 ≡ get_or t k 0) (ltb i (length t / width)) _ _ (sets_behind t (width * i) row k h) refl

-- numbers written from the front on: they are the front, and the rest is as it was
module _ (t ns : List ℕ) (room : length ns ≤ length t) where
  front : sets t 0 ns ≡ ns ++ drop (length ns) t
  front = sets-eq ns t 0 (omega arith) ∙ rw zero-add

  pub front_take : take (length ns) (sets t 0 ns) ≡ ns
  front_take = rw front (take_at ns (drop (length ns) t) (length ns) refl)

  pub front_drop : drop (length ns) (sets t 0 ns) ≡ drop (length ns) t
  front_drop = rw front (drop_at ns (drop (length ns) t) (length ns) refl)

-- taking no more than there is
pub take_min : (n : ℕ) (l : List ℕ) → take (min n (length l)) l ≡ take n l
take_min zero l = rw zero-min
take_min (suc n) [] = take-nil (min (suc n) 0)
take_min (suc n) (x ∷ l) = rw suc-min-suc (ap (λ r. x ∷ r) (take_min n l))
