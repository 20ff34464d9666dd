-- `image::structs::read_structs` fills the table as `structs_into` says: what is left to read gives what the whole gives. Assumes nothing.
use mathlib.Core.Path.{◌≡◌}
use Prim.Native.Nat.{◌*◌, ◌-◌}
use Rattle.image.specs.Tabling.{structs_into}
use Rattle.image.proofs.structs.read_structs.Given as goal

abbrev pub invariant-loop-i : goal.invariant-loop-i
invariant-loop-i l =
    structs_into l.image l.known l.count 0 l.first l.initial.structs ≡ structs_into l.image l.known (l.count - l.i) (17 * l.i) l.at l.structs
