-- What holds of everything that a reading gives: carried from part to part along the definition.
-- Assumes nothing.
use mathlib.Core.Path.{◌≡◌, refl}
use mathlib.Core.Bool.{Bool, true, false}
use Prim.Native.Nat.{ℕ}
use Rattle.choice.specs.Choice.{choose}
use Rattle.calculus.specs.declared.Fault.{Fault}
use Rattle.image.specs.Answers.{mapped}
use Rattle.image.specs.Parsing.{Parsed, got, refused, then_read}

-- if the reading gives something, P holds of it and of the offset behind it
pub data Gives {A : Type 0} (P : A → ℕ → Type 0) : Parsed A → Type 0 where
  gives : {a : A} {next : ℕ} → P a next → Gives P (got a next)
  gives_none : {f : Fault} {p : ℕ} → Gives P (refused f p)

-- what was given has the property
pub given : {A : Type 0} {P : A → ℕ → Type 0} {a : A} {next : ℕ} → Gives P (got a next) → P a next
given (gives p) = p

pub given_by : {A : Type 0} {P : A → ℕ → Type 0} {r : Parsed A} {a : A} {next : ℕ} → Gives P r → r ≡ got a next → P a next
given_by g e = given (rw e at g)

-- a reading in two parts
pub gives_then : {A B : Type 0} {P : A → ℕ → Type 0} {Q : B → ℕ → Type 0} (r : Parsed A) (go : A → ℕ → Parsed B)
    → Gives P r → ((a : A) (next : ℕ) → P a next → Gives Q (go a next)) → Gives Q (then_read r go)
gives_then (got a next) go g k = k a next (given g)
gives_then (refused f p) go g k = gives_none

-- a reading whose first part is told in another way
pub gives_telling : {A B C : Type 0} {P : A → ℕ → Type 0} {Q : C → ℕ → Type 0} (g : A → B) (r : Parsed A) (go : B → ℕ → Parsed C)
    → Gives P r → ((a : A) (next : ℕ) → P a next → Gives Q (go (g a) next)) → Gives Q (then_read (mapped g r) go)
gives_telling g (got a next) go d k = k a next (given d)
gives_telling g (refused f p) go d k = gives_none

-- a reading that goes on by a test
pub gives_test : {A : Type 0} {P : A → ℕ → Type 0} (t : Bool) (a b : Unit {0} → Parsed A)
    → (t ≡ true → Gives P (a tt)) → (t ≡ false → Gives P (b tt)) → Gives P (choose t a b)
gives_test true a b p q = p refl
gives_test false a b p q = q refl

-- a weaker property
pub gives_more : {A : Type 0} {P Q : A → ℕ → Type 0} {r : Parsed A} → ((a : A) (next : ℕ) → P a next → Q a next) → Gives P r → Gives Q r
gives_more f (gives {a} {next} p) = gives (f a next p)
gives_more f gives_none = gives_none

-- and the other way round
pub gives_by : {A : Type 0} {P : A → ℕ → Type 0} (r : Parsed A) → ((a : A) (next : ℕ) → r ≡ got a next → P a next) → Gives P r
gives_by (got a next) k = gives (k a next refl)
gives_by (refused f p) k = gives_none

-- the same as a fact by cases, which a search opens
abbrev pub IfGot : {A : Type 0} → Parsed A → (A → ℕ → Type 0) → Type 0
IfGot (got a next) P = P a next
IfGot (refused f p) P = Unit {0}

pub if_got : {A : Type 0} {P : A → ℕ → Type 0} {r : Parsed A} → Gives P r → IfGot r P
if_got (gives p) = p
if_got gives_none = tt
