-- Determined: of an input whose bytes are known, any two answers that meet the contract of `input::read_full` are equal, and so are the
-- bytes in front and what is left of the input.
use Rattle.std.proofs.Common.{◌≡◌, ℕ, ◌+◌, ◌<◌, ◌≤◌, ◌⊎◌, inl, inr, min, List, length, take, drop, Option, None, Some}
use Rattle.std.proofs.Common.{sym, ap, ◌∙◌, arith, eq-or-lt_of_le, length-append, length-take-le, take_at, drop_at}
use Rattle.std.specs.Io.KnownBytes.{Consumes, IsAtEnd}

-- as many bytes are read as are known and have room, and they are the first ones
pub read_known : (xs bs : List ℕ) (left : Option (List ℕ)) (n : ℕ) → n ≤ length bs → Consumes (Some xs) left (take n bs)
    → (n < length bs → IsAtEnd left) → (n ≡ min (length xs) (length bs)) × (take n bs ≡ take n xs) × (left ≡ Some (drop n xs))
read_known xs bs None n within taken end = absurd taken
read_known xs bs (Some ys) n within taken end =
    let long : length (take n bs) ≡ n = length-take-le n bs within in
    let all : length xs ≡ n + length ys = ap length taken ∙ length-append (take n bs) ys ∙ ap (λ m. m + length ys) long in
    let count : (n ≡ length bs) ⊎ (n < length bs) → n ≡ min (length xs) (length bs) = elim [
      | inl full ↦ omega arith
      | inr room ↦ let none : length ys ≡ 0 = ap length (end room) in omega arith
    ] in (
      count (eq-or-lt_of_le within),
      sym (ap (take n) taken ∙ take_at (take n bs) ys n long),
      ap Some (sym (ap (drop n) taken ∙ drop_at (take n bs) ys n long)),
    )

pub read_determined : (xs bs bs' : List ℕ) (left left' : Option (List ℕ)) (n n' : ℕ) → length bs ≡ length bs'
    → n ≤ length bs → Consumes (Some xs) left (take n bs) → (n < length bs → IsAtEnd left)
    → n' ≤ length bs' → Consumes (Some xs) left' (take n' bs') → (n' < length bs' → IsAtEnd left')
    → (n ≡ n') × (take n bs ≡ take n' bs') × (left ≡ left')
read_determined xs bs bs' left left' n n' room within taken end within' taken' end' =
    let one = read_known xs bs left n within taken end in
    let two = read_known xs bs' left' n' within' taken' end' in
    let same : n ≡ n' = one.0 ∙ ap (min (length xs)) room ∙ sym two.0 in (
      same,
      one.1 ∙ ap (λ m. take m xs) same ∙ sym two.1,
      one.2 ∙ ap (λ m. Some (drop m xs)) same ∙ sym two.2,
    )
