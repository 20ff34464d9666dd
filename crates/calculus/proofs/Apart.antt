-- Two constructors are never equal.
use Prim.Native.Nat.{ℕ}
use mathlib.Core.Path.{◌≡◌}
use native.Mathlib.Omega.{arith}

-- `cc` proves 0 ≡ 1 from an equation between two constructors; from that follows anything.
pub differ {ℓ} : {A : Type ℓ} → ◌≡◌ {A = ℕ} 0 1 → A
differ q = absurd (omega arith)
