-- `stepper::turns::run` advances from step to step, as `step_run` does. The loop's invariant: what is left to be done gives what the whole
-- gives. Assumes nothing.
use Rattle.std.proofs.Common.{◌≡◌, ◌-◌}
use Rattle.stepper.specs.Turns.{drives, step_run}
use Rattle.stepper.proofs.turns.run.Given as goal

abbrev pub invariant-loop : goal.invariant-loop
invariant-loop l =
    let r = l.script.rows.now in
    let s = l.script.structs.now in
    let t = l.script.types.now in
    let T = l.script.terms in
    step_run r s t T l.initial.heap l.initial.stack l.initial.bound ≡ drives r s t T (T.limit - l.counter) l.s l.heap l.stack l.bound
