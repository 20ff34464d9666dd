-- Numbers that are taken apart and put together again come back.
use Rattle.std.specs.Prelude.{ℕ, ◌+◌, ◌*◌, ◌/◌, ◌%◌, ◌≡◌, ◌<◌, eqb}
use Rattle.std.specs.Int.{from_bool}
use Rattle.std.proofs.Common.{zero, suc, arith, refl}
use Rattle.reader.specs.Cursors.{cursor_number, standing_in, around_number, surroundings_in}

pub cursor_again : (number : ℕ) → cursor_number (standing_in number) ≡ number
cursor_again number = omega arith

bit_again : (bit : ℕ) → bit < 2 → from_bool (eqb bit 1) ≡ bit
bit_again zero l = refl
bit_again (suc zero) l = refl
bit_again (suc (suc n)) l = absurd (omega arith)

pub around_again : (number : ℕ) → around_number (surroundings_in number) ≡ number
around_again number = rw (bit_again (number / 128 % 2) (omega arith)) (omega arith)
