-- Of targets: the code of a pointer to one, put together from the numbers that were read.
-- Assumes nothing.
use mathlib.Core.Path.{◌≡◌, refl}
use Prim.Native.Nat.{ℕ, ◌+◌, ◌*◌}
use native.Mathlib.Omega.{arith}
use Rattle.cells.specs.Code.{mode_number, packed}
use Rattle.cells.specs.declared.Mode.{Mode}
use Rattle.cells.specs.declared.Kind.TheVariants.{Array}
use Rattle.calculus.specs.Expr.{Target, to_word, to_struct, to_array, pointer}
use Rattle.image.specs.Parsing.{Parsed, got, refused, then_read}
use Rattle.image.specs.Answers.{told, mapped, pointer_code}

-- the code with the number in its place
array_code : (mode : Mode) (k n : ℕ) → 6 + mode_number mode + 2048 * k + 8 * n ≡ packed (Array mode k n)
unfolding packed
array_code mode k n = omega arith

-- a target with one number last is answered by its code, if the number in its place makes that code
coded : (f : ℕ → ℕ) (g : Target → ℕ) (h : ℕ → Target) (r : Parsed ℕ) → ((n : ℕ) → f n ≡ g (h n))
    → told (mapped f r) ≡ told (mapped g (then_read r (λ n next. got (h n) next)))
coded f g h (got n next) e = rw (e n)
coded f g h (refused q p) e = refl

module _ (mode : Mode) (r : Parsed ℕ) where
  pub coded_word : told (mapped (λ n. 2 + mode_number mode + 8 * n) r)
      ≡ told (mapped (pointer_code mode) (then_read r (λ n next. got (to_word n) next)))
  unfolding packed
  coded_word = coded _ (pointer_code mode) to_word r (λ n. refl)

  pub coded_struct : told (mapped (λ n. 4 + mode_number mode + 8 * n) r)
      ≡ told (mapped (pointer_code mode) (then_read r (λ n next. got (to_struct n) next)))
  unfolding packed
  coded_struct = coded _ (pointer_code mode) to_struct r (λ n. refl)

  pub coded_array : (k : ℕ)
      → told (mapped (λ n. 6 + mode_number mode + 2048 * k + 8 * n) r)
      ≡ told (mapped (pointer_code mode) (then_read r (λ n next. got (to_array k n) next)))
  coded_array k = coded _ (pointer_code mode) (to_array k) r (λ n. array_code mode k n)

-- the code of the pointer to a target is the code of the kind that it makes
pub mapped_pointer : (mode : Mode) (r : Parsed Target)
    → told (mapped (pointer_code mode) r) ≡ told (mapped packed (then_read r (λ ω next. got (pointer mode ω) next)))
mapped_pointer mode (got ω next) = refl
mapped_pointer mode (refused f p) = refl
