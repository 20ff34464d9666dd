-- A code that no operation has is unknown.
use Prim.Native.Nat.{ℕ, zero, suc, ◌≤◌}
use mathlib.Core.Path.{◌≡◌, refl}
use mathlib.Core.List.{List, [], ◌∷◌}
use native.Mathlib.Omega.{arith}
use lib.ListN.{length, get_or}
use Rattle.calculus.specs.Operations.{operations, operation_of}
use Rattle.calculus.specs.declared.Operation.{Operation}
use Rattle.calculus.specs.declared.Operation.TheVariants.{Unknown}

-- the code is none of the numbers below k, told one after another, as the last arm of a match has it
abbrev pub Others : (code k : ℕ) → Type 0
Others code zero = Unit {0}
Others code (suc k) = Others code k × (code ≡ k → ⊥)

others_behind : (code k : ℕ) → Others code k → k ≤ code
others_behind code zero o = omega arith
others_behind code (suc k) (o, n) = let l : k ≤ code = others_behind code k o in omega (arith, l, n)

-- Behind a list's end.
behind : (os : List Operation) (code : ℕ) → length os ≤ code → get_or os code Unknown ≡ Unknown
behind [] code l = refl
behind (o ∷ os) zero l = absurd (omega arith)
behind (o ∷ os) (suc code) l = behind os code (omega arith)

-- A code that none of them has.
pub unknown_code : (code : ℕ) → Others code (length operations) → operation_of code ≡ Unknown
unfolding operation_of
unknown_code code o = behind operations code (others_behind code (length operations) o)
