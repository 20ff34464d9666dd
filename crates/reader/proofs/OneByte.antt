-- A byte below 128 is a number.
use Prim.Native.Nat.{ℕ, zero, suc, ◌+◌, ◌*◌, ◌<◌}
use mathlib.Core.Path.{◌≡◌, refl}
use mathlib.Core.List.{List}
use native.Mathlib.Omega.{arith}
use lib.ListN.{length, get_or}
use borrow.Author.Tests.{lt-ltb, lt-leb, eq-eqb, ne_eqb}
use Rattle.numbers.specs.Reading.{good, last_group, groups}
use Rattle.image.specs.Parsing.{got, number}

-- a sole group is its own worth
sole : (at b : ℕ) → last_group at at 1 0 b ≡ good b (at + 1)
unfolding last_group
sole at zero = rw (eq-eqb at at refl)
sole at (suc b) = let e : 0 + suc b * 1 ≡ suc b = omega arith in rw (e, ne_eqb (suc b) 0 (λ q. omega arith))

pub one_byte : (image : List ℕ) (at : ℕ) → at < length image → get_or image at 0 < 128 → number image at ≡ got (get_or image at 0) (at + 1)
unfolding number groups
one_byte image at l h = rw (lt-ltb at (length image) l, lt-leb 128 (get_or image at 0) h, sole at (get_or image at 0))
