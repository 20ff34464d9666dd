-- `image::types::read_types` fills the table as `types_into` says: what is left to read gives what the whole gives, and every code in the
-- table has its mark. Assumes nothing.
use mathlib.Core.Path.{◌≡◌}
use Prim.Native.Nat.{◌+◌, ◌-◌}
use Rattle.image.specs.Tabling.{types_into}
use Rattle.image.proofs.Repeats.{Marked}
use Rattle.image.proofs.types.read_types.Given as goal

abbrev pub invariant-loop-own : goal.invariant-loop-own
invariant-loop-own l =
    (types_into l.image l.structs l.count 1 l.first l.initial.types ≡ types_into l.image l.structs (l.count + 1 - l.own) l.own l.at l.types)
    × Marked l.marks l.types l.own
