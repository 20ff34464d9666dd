-- A reader that writes a table against the definition of what it reads: both refuse at the same place, or both pass to the same offset and
-- the table is as it should be.
-- Assumes nothing.
use mathlib.Core.Path.{◌≡◌, refl}
use mathlib.Core.Bool.{Bool, true, false}
use mathlib.Core.List.{List}
use Prim.Native.Nat.{ℕ}
use Rattle.choice.specs.Choice.{choose}
use Rattle.std.proofs.Common.{Result, Ok, Err}
use Rattle.calculus.specs.declared.Fault.{Fault}
use Rattle.calculus.specs.declared.Refusal.{Refusal}
use Rattle.image.specs.Parsing.{Parsed, got, refused, then_read}
use Rattle.image.specs.Answers.{refusal, mapped}
use Rattle.image.specs.Filled.{Filled, filled}
use Rattle.image.specs.Tabling.{passed, on_read, on_filled}
use Rattle.image.proofs.Gives.{Gives, given}

pub data Fills {A : Type 0} (P : A → List ℕ → Type 0) : Parsed A → Filled (Result ℕ Refusal) → Type 0 where
  fills : {a : A} {next : ℕ} {t : List ℕ} → P a t → Fills P (got a next) (filled (Ok next) t)
  fills_none : {f : Fault} {p : ℕ} {t : List ℕ} → Fills P (refused f p) (filled (Err (refusal f p)) t)

-- the answer is the definition's
pub fills_result : {A : Type 0} {P : A → List ℕ → Type 0} {r : Parsed A} {f : Filled (Result ℕ Refusal)} → Fills P r f → f.result ≡ passed r
fills_result (fills p) = refl
fills_result fills_none = refl

-- what was read stands in the table
pub fills_table : {A : Type 0} {P : A → List ℕ → Type 0} {a : A} {next : ℕ} {f : Filled (Result ℕ Refusal)} → Fills P (got a next) f → P a f.table
fills_table (fills p) = p

-- behind a part that writes nothing
pub fills_then : {A B : Type 0} {Q : B → List ℕ → Type 0} {D : A → ℕ → Type 0} (r : Parsed A) (t : List ℕ) (go : A → ℕ → Parsed B)
    (go' : A → ℕ → Filled (Result ℕ Refusal)) → Gives D r → ((a : A) (next : ℕ) → D a next → Fills Q (go a next) (go' a next))
    → Fills Q (then_read r go) (on_read r t go')
fills_then (got a next) t go go' g k = k a next (given g)
fills_then (refused f p) t go go' g k = fills_none

module _ {A B : Type 0} {P : A → List ℕ → Type 0} {Q : B → List ℕ → Type 0} where
  -- behind a part that writes
  pub fills_onward : {r : Parsed A} {f : Filled (Result ℕ Refusal)} (go : A → ℕ → Parsed B) (go' : ℕ → List ℕ → Filled (Result ℕ Refusal))
      → Fills P r f → ((a : A) (next : ℕ) (t : List ℕ) → r ≡ got a next → P a t → Fills Q (go a next) (go' next t))
      → Fills Q (then_read r go) (on_filled f go')
  fills_onward go go' (fills {a} {next} {t} p) k = k a next t refl p
  fills_onward go go' fills_none k = fills_none

  -- what was read is told in another way
  pub fills_as : {r : Parsed A} {f : Filled (Result ℕ Refusal)} (g : A → B) → Fills P r f
      → ((a : A) (next : ℕ) (t : List ℕ) → r ≡ got a next → P a t → Q (g a) t)
      → Fills Q (then_read r (λ a next. got (g a) next)) f
  fills_as g (fills {a} {next} {t} p) k = fills (k a next t refl p)
  fills_as g fills_none k = fills_none

-- by a test
pub fills_test : {A : Type 0} {P : A → List ℕ → Type 0} (s : Bool) (a b : Unit {0} → Parsed A) (a' b' : Unit {0} → Filled (Result ℕ Refusal))
    → (s ≡ true → Fills P (a tt) (a' tt)) → (s ≡ false → Fills P (b tt) (b' tt)) → Fills P (choose s a b) (choose s a' b')
fills_test true a b a' b' p q = p refl
fills_test false a b a' b' p q = q refl

-- a stronger property of what was read
pub fills_more : {A : Type 0} {P Q : A → List ℕ → Type 0} {r : Parsed A} {f : Filled (Result ℕ Refusal)} → Fills P r f
    → ((a : A) (next : ℕ) (t : List ℕ) → r ≡ got a next → P a t → Q a t) → Fills Q r f
fills_more (fills {a} {next} {t} p) k = fills (k a next t refl p)
fills_more fills_none k = fills_none

module _ {A B C : Type 0} {Q : C → List ℕ → Type 0} {D : A → ℕ → Type 0} (g : A → B) (r : Parsed A) (t : List ℕ) where
  -- behind a part that the code was told in another way
  pub fills_told : (go : A → ℕ → Parsed C) (go' : B → ℕ → Filled (Result ℕ Refusal))
      → Gives D r → ((a : A) (next : ℕ) → D a next → Fills Q (go a next) (go' (g a) next)) → Fills Q (then_read r go) (on_read (mapped g r) t go')
  fills_told go go' d k = told r d
    where
      told : (r : Parsed A) → Gives D r → Fills Q (then_read r go) (on_read (mapped g r) t go')
      told (got a next) d = k a next (given d)
      told (refused f p) d = fills_none

  -- behind a part that the definition tells in another way
  pub fills_telling : (go : B → ℕ → Parsed C) (go' : A → ℕ → Filled (Result ℕ Refusal))
      → Gives D r → ((a : A) (next : ℕ) → D a next → Fills Q (go (g a) next) (go' a next)) → Fills Q (then_read (mapped g r) go) (on_read r t go')
  fills_telling go go' d k = telling r d
    where
      telling : (r : Parsed A) → Gives D r → Fills Q (then_read (mapped g r) go) (on_read r t go')
      telling (got a next) d = k a next (given d)
      telling (refused f p) d = fills_none
