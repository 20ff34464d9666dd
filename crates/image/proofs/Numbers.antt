-- Of numbers that were read: where they end, and how large they are.
-- Assumes nothing.
use mathlib.Core.Path.{◌≡◌, refl, sym, ◌∙◌}
use mathlib.Core.List.{List}
use Prim.Native.Nat.{ℕ, ◌^◌, ◌<◌, ◌≤◌}
use lib.Dec.{ltb}
use lib.ListN.{length}
use borrow.Author.Tests.{ltb-true}
use Rattle.std.proofs.Common.{Result, Ok, Err}
use Rattle.numbers.specs.Reading.{Number, number_at}
use Rattle.numbers.specs.Width.{bits32}
use Rattle.numbers.specs.declared.Read.{Read}
use Rattle.numbers.specs.declared.Unread.TheVariants.{Ends, Unfit}
use Rattle.numbers.proofs.Laws.{number_sound, number_32}
use Rattle.calculus.specs.declared.Fault.{Fault}
use Rattle.calculus.specs.declared.Refusal.{Refusal}
use Rattle.image.specs.Parsing.{Parsed, as_reading, number, below}
use Rattle.image.specs.Answers.{with_next, told}
use Rattle.image.proofs.Gives.{Gives, gives, gives_none, gives_then, gives_test, gives_more, given_by, IfGot, if_got}
use Rattle.image.proofs.Answered.{was_got}

-- a number that was read at `at`
pub record Fitting (image : List ℕ) (at value next : ℕ) : Type 0 where
  pub behind : at < next
  pub within : next ≤ length image
  pub fits : value < 2 ^ 32

-- a number below a limit that was read at `at`
pub record Below (limit : ℕ) (image : List ℕ) (at value next : ℕ) : Type 0 where
  pub behind : at < next
  pub within : next ≤ length image
  pub fits : value < 2 ^ 32
  pub limited_by : value < limit

pub number_gives : (image : List ℕ) (at : ℕ) → Gives (Fitting image at) (number image at)
unfolding number
number_gives image at = go (number_at image at) refl
  where
    go : (r : Number) → number_at image at ≡ r → Gives (Fitting image at) (as_reading r)
    go (Ok r) e =
        let s = number_sound bits32 image at r.value r.next e in
        gives (record { behind = s.behind; within = s.within; fits = number_32 image at r.value r.next e })
    go (Err (Ends p)) e = gives_none
    go (Err (Unfit p)) e = gives_none

pub below_gives : (f : Fault) (limit : ℕ) (image : List ℕ) (at : ℕ) → Gives (Below limit image at) (below f limit image at)
unfolding below
below_gives f limit image at =
    gives_then (number image at) _ (number_gives image at)
    (λ v next s. gives_test (ltb v limit) _ _
    (λ l. gives (record { behind = s.behind; within = s.within; fits = s.fits; limited_by = ltb-true v limit l }))
    (λ _. gives_none))

-- what the code knows of a value that it was answered
pub value_of_lem : {A : Type 0} {P : A → ℕ → Type 0} (r : Parsed A) {v : A} {next : ℕ} → Gives P r → told r ≡ Ok (with_next v next) → P v next
value_of_lem r {v} {next} g e = given_by g (was_got r {x = with_next v next} (sym e))

-- a value that was answered for a number below a limit
pub below_value : (f : Fault) (limit : ℕ) (image : List ℕ) (at : ℕ) {r : Result (Read ℕ) Refusal} {v next : ℕ}
    → r ≡ told (below f limit image at) → r ≡ Ok (with_next v next) → Below limit image at v next
below_value f limit image at e p = value_of_lem (below f limit image at) (below_gives f limit image at) (sym e ∙ p)

-- what the code knows of a number below a limit; the equation shows the search the call that it is about
pub below_small : (f : Fault) (limit : ℕ) (image : List ℕ) (at : ℕ)
    → (below f limit image at ≡ below f limit image at) × IfGot (below f limit image at) (λ v _. (v < limit) × (v < 2 ^ 32))
below_small f limit image at = (refl, if_got (gives_more (λ v next s. (s.limited_by, s.fits)) (below_gives f limit image at)))
