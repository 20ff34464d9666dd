-- A read into the room behind what was read before: what stands in front is then what both gave.
use Rattle.std.proofs.Common.{◌≡◌, ℕ, ◌+◌, ◌≤◌, List, ◌++◌, length, take, drop, sym, ap, ◌∙◌, le_refl, drop_at, length-take-le, take-add}
use Rattle.std.proofs.lemmas.Slice.{take-put_mid_below}
use borrow.Rule.Slice.PartMut.{put_mid}
use lib.Seq.{take-append-le}

-- a bytes stood in front of xs, n are read into the k behind them, and m is both
pub read_in_front : (a k n m : ℕ) (xs ys : List ℕ) → m ≡ a + n → a ≤ length xs → n ≤ length ys
    → take a xs ++ take n ys ≡ take m (put_mid a k xs ys)
read_in_front a k n m xs ys both within fits =
    let all : List ℕ = put_mid a k xs ys in
    let front : take a all ≡ take a xs = take-put_mid_below a k xs ys a (le_refl a) within in
    let read : take n (drop a all) ≡ take n ys =
    ap (take n) (drop_at (take a xs) _ a (length-take-le a xs within)) ∙ take-append-le n ys _ fits in
    sym (ap (λ l. take l all) both ∙ take-add a n all ∙ ap (λ l. l ++ take n (drop a all)) front ∙ ap (λ l. take a xs ++ l) read)
