-- `numbers::read_groups` gives what `groups` says of the number at `first`: the groups passed are worth less than the next one's weight,
-- what may follow still fits, and the number is the one from here on. Assumes nothing.
use mathlib.Core.Path.{◌≡◌}
use Prim.Native.Nat.{◌^◌, ◌<◌, ◌≤◌}
use Rattle.numbers.specs.Reading.{groups}
use Rattle.numbers.proofs.Reach.{reach}
use Rattle.numbers.proofs.read_groups.Given as goal

abbrev pub invariant-loop-at : goal.invariant-loop-at
invariant-loop-at l =
    (l.sum < l.weight)
    × (reach l.weight l.left l.top ≤ 2 ^ 64)
    × (groups l.top l.image l.first l.more l.first 1 0 ≡ groups l.top l.image l.first l.left l.at l.weight l.sum)
