-- `image::structs::read_fields` fills the table as `fields_into` says: what is left to read gives what the whole gives. Assumes nothing.
use mathlib.Core.Path.{◌≡◌}
use Prim.Native.Nat.{◌+◌, ◌-◌}
use Rattle.image.specs.Tabling.{fields_into}
use Rattle.image.proofs.structs.read_fields.Given as goal

abbrev pub invariant-loop-to : goal.invariant-loop-to
invariant-loop-to l =
    fields_into l.image l.known l.count l.start l.first l.initial.structs ≡ fields_into l.image l.known (l.start + l.count - l.to) l.to l.at l.structs
