-- `stepper::turns::advance` goes on over rows without a step, as `advanced` does. The loop's invariant is `Going`: what is left to be done
-- gives what the whole gives. Assumes nothing.
use Rattle.std.proofs.Common.{◌≡◌, ℕ, ◌-◌, ◌<◌, ◌≤◌, List, Break}
use Rattle.calculus.specs.Run.{outcome_of}
use Rattle.calculus.specs.declared.End.TheVariants.{Stuck}
use Rattle.tables.specs.Rows.{whole_rows}
use Rattle.yields.specs.declared.Terms.{Terms}
use Rattle.stepper.specs.declared.StepState.{StepState}
use Rattle.stepper.specs.States.{Turned}
use Rattle.stepper.specs.Turns.{advanced, advanced_to, flow_of}
use Rattle.stepper.proofs.turns.advance.Given as goal

-- after i of n rows and one more
pub record Going (whole : Turned) (rows structs types : List ℕ) (T : Terms) (n i : ℕ) (heap stack bound : List ℕ) (s : StepState) : Type 0 where
  pub again : i ≤ n → whole ≡ advanced rows structs types T (n - i) s heap stack bound
  pub spent : n < i → flow_of whole ≡ advanced_to (Break (outcome_of Stuck s.steps s.first)) heap stack bound

abbrev pub invariant-loop : goal.invariant-loop
invariant-loop l =
    Going (advanced l.script.rows.now l.script.structs.now l.script.types.now l.script.terms (whole_rows l.script.rows.now) l.initial.now l.initial.heap
    l.initial.stack l.initial.bound) l.script.rows.now l.script.structs.now l.script.types.now l.script.terms (whole_rows l.script.rows.now) l.counter l.heap
    l.stack l.bound l.now
