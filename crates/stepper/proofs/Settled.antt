-- The heap where a row ends the run, or leaves it as it is.
use Rattle.std.proofs.Common.{◌≡◌, ℕ, leb, List, refl}
use Rattle.choice.specs.Choice.{choose_case}
use Rattle.calculus.specs.Run.{outcome_of}
use Rattle.calculus.specs.declared.End.TheVariants.{Halted}
use Rattle.calculus.specs.declared.Halt.{Halt}
use Rattle.stepper.specs.declared.StepState.{StepState}
use Rattle.stepper.specs.declared.StepTurn.{StepTurn}
use Rattle.stepper.specs.declared.StepTurn.TheVariants.{Goes, Steps, Ends}
use Rattle.yields.specs.declared.Yield.{Yield}
use Rattle.yields.specs.Malloc.{one_more}
use Rattle.yields.specs.Yields.{given_on}
use Rattle.stepper.specs.States.{first_now, ends_more, ends_halt, settled_by, changed, heap_left, settled_on}

heap_alike : (t : StepTurn) (ws : List ℕ) → heap_left t ws ws ≡ ws
heap_alike (Goes s) ws = refl
heap_alike (Steps s) ws = refl
heap_alike (Ends o) ws = refl

pub settled_alike : (limit : ℕ) (s : StepState) (y : Yield) (ws : List ℕ) → changed (settled_by limit s y) ws ≡ settled_on limit s ws (given_on y ws)
unfolding settled_on
settled_alike limit s y ws = rw (heap_alike (settled_by limit s y) ws)

pub halt_alike : (limit : ℕ) (s : StepState) (h : Halt) (ws ws' : List ℕ) → heap_left (ends_halt limit s h) ws ws' ≡ ws
halt_alike limit s h ws ws' =
    choose_case (λ (t : StepTurn). heap_left t ws ws' ≡ ws) (leb limit s.steps) (λ _. ends_more s)
    (λ _. Ends (outcome_of (Halted h) (one_more s.steps) (first_now s))) refl refl
