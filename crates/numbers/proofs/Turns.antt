-- One group of a number that is read: what the reader's loop goes by.
-- Assumes nothing.
use mathlib.Core.Path.{◌≡◌, refl}
use mathlib.Core.List.{List}
use Prim.Native.Nat.{ℕ, zero, suc, ◌+◌, ◌*◌, ◌%◌, ◌-◌, ◌<◌, ◌≤◌}
use native.Mathlib.Omega.{arith}
use lib.ListN.{length}
use borrow.Author.Tests.{le-ltb}
use lib.Dec.{leb}
use Rattle.std.proofs.Common.{Err}
use Rattle.choice.specs.Choice.{choose}
use Rattle.numbers.specs.declared.Unread.TheVariants.{Ends}
use Rattle.numbers.specs.Reading.{byte_then, last_group, groups}
use Rattle.numbers.proofs.Reach.{reach, reach_on, reach_more, digit_small}

is_suc : (n : ℕ) → 0 < n → n ≡ suc (n - 1)
is_suc n h = omega arith

module _ (top : ℕ) (image : List ℕ) (first left at weight sum : ℕ) where
  -- a group that another may follow
  pub group_turn : 0 < left → groups top image first left at weight sum
      ≡ byte_then image at
      (λ b. choose (leb 128 b)
      (λ _. groups top image first (left - 1) (at + 1) (weight * 128) (sum + b % 128 * weight))
      (λ _. last_group first at weight sum b))
  unfolding groups
  group_turn h = go (left - 1) (is_suc left h)
    where
      go : (l : ℕ) → left ≡ suc l → groups top image first left at weight sum
          ≡ byte_then image at
          (λ b. choose (leb 128 b)
          (λ _. groups top image first l (at + 1) (weight * 128) (sum + b % 128 * weight))
          (λ _. last_group first at weight sum b))
      go l e = rw e

  -- no group
  pub group_ends : length image ≤ at → groups top image first left at weight sum ≡ Err (Ends (length image))
  unfolding groups
  group_ends h = go left
    where
      go : (l : ℕ) → groups top image first l at weight sum ≡ Err (Ends (length image))
      go zero = rw (le-ltb at (length image) h)
      go (suc l) = rw (le-ltb at (length image) h)

-- where a group may follow there is room for all that this one can be worth, and the groups from the next one on reach as far
pub reach_turn : (weight left top : ℕ) → (reach weight left top ≡ reach weight left top)
    × (0 < left → 0 < top → (weight * 256 ≤ reach weight left top) × (reach (weight * 128) (left - 1) top ≡ reach weight left top))
reach_turn weight left top = (refl, λ h p. go (left - 1) (is_suc left h) p)
  where
    go : (l : ℕ) → left ≡ suc l → 0 < top → (weight * 256 ≤ reach weight left top) × (reach (weight * 128) l top ≡ reach weight left top)
    go l e p = rw e (omega (arith, reach_more weight l top {n = 2} (omega arith)), reach_on weight l top)

-- what the reader goes by
pub ruleset turns = (group_turn, group_ends, reach_turn, digit_small)
