-- Of what crosses the recursive call: what fits its bits comes out as it went in.
use Prim.Native.Nat.{ℕ, zero, suc, ◌+◌, ◌*◌, ◌/◌, ◌%◌, ◌≤◌, ◌<◌}
use mathlib.Core.Path.{◌≡◌, refl, ◌∙◌, ap}
use mathlib.Core.Bool.{Bool, true, false}
use native.Mathlib.Omega.{arith}
use lib.Dec.{eqb, leb}
use lib.ListN.{get_or-eq_default}
use borrow.Author.Tests.{lt-ltb, le-ltb, le-leb}
use Rattle.std.specs.Int.{from_bool}
use Rattle.std.proofs.Common.{Ok, Err}
use Rattle.calculus.specs.Answers.{fault_number}
use Rattle.calculus.specs.declared.Fault.{Fault}
use Rattle.calculus.specs.declared.Fault.TheVariants.{Ends, Unfit, Format, Limit, Unknown, Repeat, Beyond, Behind, NoRule, IllTyped}
use Rattle.image.specs.Answers.{refusal}
use Rattle.reader.specs.Cursors.{ReadingAt, reading_at, cursor_number, standing_in, behind_head, behind_row}
use Rattle.reader.specs.Cursors.{surroundings, around_number, surroundings_in, fault_list, fault_of, answer_number, crossed}

-- ---- where reading stands, in numbers that fit
standing_is : {o o' n n' r r' : ℕ} → o ≡ o' → n ≡ n' → r ≡ r' → reading_at o n r ≡ reading_at o' n' r'
standing_is a b c = rw (a, b, c)

module _ (offset nodes rows : ℕ) (near : offset < 274877906944) (few : nodes < 4096) where
  back : rows < 8192 → standing_in (cursor_number (reading_at offset nodes rows)) ≡ reading_at offset nodes rows
  back low = standing_is (omega arith) (omega arith) (omega arith)

  pub row_more : suc rows < 8192 → behind_row (reading_at offset nodes rows) ≡ reading_at offset nodes (suc rows)
  unfolding behind_row
  row_more low = standing_is (omega arith) (omega arith) (omega arith)

  pub crossed_read : rows < 8192 → crossed (Ok (reading_at offset nodes rows)) ≡ Ok (reading_at offset nodes rows)
  unfolding crossed
  crossed_read low =
      let n : ℕ = cursor_number (reading_at offset nodes rows) in
      let small : n < 9223372036854775808 = omega arith in
      rw (lt-ltb n 9223372036854775808 small, back low)

-- the rows come out of the number whatever stands above them
pub rows_cursor : (offset nodes rows : ℕ) → rows < 8192 → (standing_in (cursor_number (reading_at offset nodes rows))).rows ≡ rows
rows_cursor offset nodes rows low = omega arith

-- behind a head that ends at `next`
pub behind_is : (at i p next : ℕ) → i < 4095 → next < 274877906944 → behind_head (reading_at at i p) next ≡ reading_at next (suc i) p
unfolding behind_head
behind_is at i p next few near = standing_is (omega arith) (omega arith) refl

-- ---- a refusal
-- the number is none of those from 1 to k, told one after another, as the last arm of a match has it
abbrev pub NoneTo : (number k : ℕ) → Type 0
NoneTo number zero = Unit {0}
NoneTo number (suc k) = NoneTo number k × (number ≡ suc k → ⊥)

none_to : (number k : ℕ) → NoneTo number k → 0 < number → k < number
none_to number zero o p = p
none_to number (suc k) (o, n) p = let l : k < number = none_to number k o p in omega (arith, l, n)

-- 0 and a number above 9 have the last fault
pub no_fault : (number : ℕ) → NoneTo number 9 → fault_of number ≡ IllTyped
unfolding fault_of
no_fault zero o = refl
no_fault (suc n) o = get_or-eq_default fault_list IllTyped {n = suc n} (none_to (suc n) 9 o (omega arith))

fault_back : (f : Fault) → fault_of (fault_number f) ≡ f
unfolding fault_of
fault_back Ends = refl
fault_back Unfit = refl
fault_back Format = refl
fault_back Limit = refl
fault_back Unknown = refl
fault_back Repeat = refl
fault_back Beyond = refl
fault_back Behind = refl
fault_back NoRule = refl
fault_back IllTyped = refl

pub fault_below : (f : Fault) → fault_number f < 16
fault_below Ends = omega arith
fault_below Unfit = omega arith
fault_below Format = omega arith
fault_below Limit = omega arith
fault_below Unknown = omega arith
fault_below Repeat = omega arith
fault_below Beyond = omega arith
fault_below Behind = omega arith
fault_below NoRule = omega arith
fault_below IllTyped = omega arith

-- its number has bit 63, and its fault and its place come out of it
module _ (f : Fault) (place : ℕ) where
  pub is_refusal_lem : leb 9223372036854775808 (answer_number (Err (refusal f place))) ≡ true
  is_refusal_lem = le-leb 9223372036854775808 (answer_number (Err (refusal f place))) (omega arith)

  number_there : (n : ℕ) → n < 16 → (9223372036854775808 + 274877906944 * n + place % 274877906944) / 274877906944 % 16 ≡ n
  number_there n l = omega arith

  pub fault_refusal : fault_of (answer_number (Err (refusal f place)) / 274877906944 % 16) ≡ f
  fault_refusal = rw (number_there (fault_number f) (fault_below f)) (fault_back f)

  pub place_refusal : place < 274877906944 → answer_number (Err (refusal f place)) % 274877906944 ≡ place
  place_refusal l = omega arith

module _ (f : Fault) (place : ℕ) (near : place < 274877906944) where
  place_there : (n : ℕ) → (9223372036854775808 + 274877906944 * n + place % 274877906944) % 274877906944 ≡ place
  place_there n = omega arith

  pub crossed_refused : crossed (Err (refusal f place)) ≡ Err (refusal f place)
  unfolding crossed
  crossed_refused =
      let n : ℕ = 9223372036854775808 + 274877906944 * fault_number f + place % 274877906944 in
      let large : 9223372036854775808 ≤ n = omega arith in
      rw (le-ltb n 9223372036854775808 large, number_there f place (fault_number f) (fault_below f), place_there (fault_number f), fault_back f)

-- ---- what is around a node
bit_below : (b : Bool) → from_bool b < 2
bit_below true = omega arith
bit_below false = omega arith

bit_back : (b : Bool) → eqb (from_bool b) 1 ≡ b
bit_back true = refl
bit_back false = refl

module _ (depth lets : ℕ) (inside : Bool) (low : depth < 128) where
  pub depth_around : (surroundings_in (around_number (surroundings depth lets inside))).depth ≡ depth
  depth_around = omega arith

  pub lets_around : (surroundings_in (around_number (surroundings depth lets inside))).lets ≡ lets
  lets_around = omega (arith, bit_below inside)

  bit_there : (b : ℕ) → b < 2 → (depth + 128 * b + 256 * lets) / 128 % 2 ≡ b
  bit_there b l = omega arith

  pub block_around : (surroundings_in (around_number (surroundings depth lets inside))).inside ≡ inside
  block_around = rw (bit_there (from_bool inside) (bit_below inside)) (bit_back inside)
