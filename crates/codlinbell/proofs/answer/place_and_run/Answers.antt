-- `codlinbell::answer::place_and_run` runs the content over its own heap: clearing, placing and running make the definition's run.
use Rattle.codlinbell.proofs.Composed.{run_told}
use Rattle.codlinbell.proofs.answer.place_and_run.Goals as goal

pub returns : goal.returns
returns c image content marks queue p = run_told p _ c.clear.ensures c.place_cells.ensures c.run.ensures
