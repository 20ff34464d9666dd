-- The goal of `image::types::read_types` that the check leaves.
use native.Mathlib.Omega.{arith}
use Rattle.image.proofs.Repeats.{marked_more, mark_first}
use Rattle.image.proofs.Turns.{types_turn}
use Rattle.image.proofs.types.read_types.Goals as goal

pub loop-own-preserved : goal.loop-own-preserved
loop-own-preserved c =
    (grind (arith, types_turn, mark_first), rw (c.put.ensures, c.mark_of.ensures) (marked_more c.in_ok-entry.entry.value c.loop-own.invariant.1))
