-- How far the groups of a number reach: bounds on what they are worth, over plain numbers. The rest is linear.
-- Assumes nothing.
use mathlib.Core.Path.{◌≡◌, refl}
use Prim.Native.Nat.{ℕ, zero, suc, ◌+◌, ◌*◌, ◌%◌, ◌^◌, ◌<◌, ◌≤◌}
use native.Mathlib.Nat.{pow-zero, pow-succ', mul-one, mul_comm, mul_assoc, mul-le-mul, le-mul_of_pos_right, pow-le-pow_right}
use native.Mathlib.Omega.{arith}
use lib.Arith.{digits_lt}

-- the groups from one of weight `weight` on, `left` of them before the top one, are worth less than this
abbrev pub reach : (weight left top : ℕ) → ℕ
reach weight left top = weight * 128 ^ left * (top + 1)

-- a group below `limit` adds less than `limit` times its weight, what stands before it included
pub group_below : {sum weight group limit : ℕ} → sum < weight → group < limit → sum + group * weight < weight * limit
group_below {sum} {weight} {group} {limit} s g = rw (mul_comm weight limit) (omega (arith, digits_lt g s))

-- the top group reaches as far as its limit
pub reach_top : (weight top : ℕ) → reach weight zero top ≡ weight * (top + 1)
reach_top weight top = rw (pow-zero, mul-one)

-- a group that is passed leaves the reach as it was
pub reach_on : (weight left top : ℕ) → reach (weight * 128) left top ≡ reach weight (suc left) top
reach_on weight left top = rw (pow-succ', mul_assoc weight 128 (128 ^ left))

-- where a group may follow, there is room for all that this one can be worth, at each of the top group's numbers
pub reach_more : (weight left top : ℕ) {n : ℕ} → n ≤ top + 1 → weight * 128 * n ≤ reach weight (suc left) top
reach_more weight left top h =
    rw (← reach_on weight left top)
    (mul-le-mul (le-mul_of_pos_right (weight * 128) (pow-le-pow_right {n = 128} (omega arith) {i = 0} {j = left} (omega arith))) h)

-- seven bits of a group are worth at most 127 times its weight
pub digit_small : (b weight : ℕ) → (b % 128 * weight ≡ b % 128 * weight) × (b % 128 * weight ≤ 127 * weight)
digit_small b weight = (refl, let h : b % 128 ≤ 127 = omega arith in grind arith)
