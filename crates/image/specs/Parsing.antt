-- Reading parts one after another: "the first fault in reading order counts". Each part is read at an offset of the image.
use Rattle.std.specs.Prelude.{ℕ, zero, suc, ◌+◌, List, [], ◌∷◌, ltb, Ok, Err}
use Rattle.choice.specs.Choice.{choose}
use Rattle.numbers.specs.Reading.{Number, number_at}
use Rattle.numbers.specs.declared.Unread.TheVariants.{Ends, Unfit}
use Rattle.calculus.specs.declared.Fault.{Fault}
use Rattle.calculus.specs.declared.Fault.TheVariants as fault

-- what was read and the offset behind it, or the fault and its place
pub data Parsed (A : Type 0) : Type 0 where
  got : A → ℕ → Parsed A
  refused : Fault → ℕ → Parsed A

-- go on behind what was read
abbrev pub then_read : {A B : Type 0} → Parsed A → (A → ℕ → Parsed B) → Parsed B
then_read (got a at) go = go a at
then_read (refused f p) go = refused f p

-- faults 1 and 2
abbrev pub as_reading : Number → Parsed ℕ
as_reading (Ok r) = got r.value r.next
as_reading (Err (Ends p)) = refused fault.Ends p
as_reading (Err (Unfit p)) = refused fault.Unfit p

-- a number
unfoldable pub number : (image : List ℕ) (at : ℕ) → Parsed ℕ
number image at = as_reading (number_at image at)

-- a number below a limit; another is this fault, at its first byte
unfoldable pub below : Fault → (limit : ℕ) (image : List ℕ) (at : ℕ) → Parsed ℕ
below f limit image at =
    then_read (number image at) (λ v next. choose (ltb v limit) (λ _. got v next) (λ _. refused f at))

-- k parts of one kind, in a row
unfoldable pub several : {A : Type 0} → (ℕ → Parsed A) → (k at : ℕ) → Parsed (List A)
several part zero at = got [] at
several part (suc k) at =
    then_read (part at) (λ a at₁. then_read (several part k at₁) (λ rest at₂. got (a ∷ rest) at₂))

-- what was read in the part of the image that starts at an offset, with places carried back to whole-image offsets
abbrev pub carried : {A : Type 0} → ℕ → Parsed A → Parsed A
carried start (got a at) = got a (start + at)
carried start (refused f p) = refused f (start + p)
