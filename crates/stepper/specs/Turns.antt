-- A row of the lent numbers, the rows up to and including the next step, and the run.
use Rattle.std.specs.Prelude.{ℕ, zero, suc, false, List}
use Rattle.std.specs.declared.ops.ControlFlow.{ControlFlow}
use Rattle.std.specs.declared.ops.ControlFlow.TheVariants.{Continue, Break}
use Rattle.calculus.specs.Run.{outcome_of}
use Rattle.calculus.specs.declared.End.TheVariants.{Stuck}
use Rattle.calculus.specs.declared.Outcome.{Outcome}
use Rattle.tables.specs.Heads.{task_in, inside_in, slot_in}
use Rattle.tables.specs.Rows.{whole_rows, head_at, datum_at}
use Rattle.stepper.specs.declared.StepState.{StepState}
use Rattle.yields.specs.declared.Terms.{Terms}
use Rattle.stepper.specs.declared.StepTurn.{StepTurn}
use Rattle.stepper.specs.declared.StepTurn.TheVariants.{Goes, Steps, Ends}
use Rattle.stepper.specs.States.{Turned, turned_to, state_of, looked}
use Rattle.yields.specs.Malloc.{start_hint}
use Rattle.stepper.specs.Stack.{task_turn}

-- what a run answers, and the lent memory that it leaves
pub record RunEnd : Type 0 where
  pub outcome : Outcome
  pub heap : List ℕ
  pub stack : List ℕ
  pub bound : List ℕ

abbrev pub run_end : Outcome → (heap stack bound : List ℕ) → RunEnd
run_end o ws stack bound = record { outcome = o; heap = ws; stack = stack; bound = bound }

-- after a row without a step the rest
abbrev pub quiet_then : StepTurn → (ws stack bound : List ℕ) → (StepState → (ws stack bound : List ℕ) → Turned) → Turned
quiet_then (Goes s) ws stack bound go = go s ws stack bound
quiet_then (Steps s) ws stack bound go = turned_to (Steps s) ws stack bound
quiet_then (Ends o) ws stack bound go = turned_to (Ends o) ws stack bound

abbrev pub after_quiet : Turned → (StepState → (ws stack bound : List ℕ) → Turned) → Turned
after_quiet m go = quiet_then m.turn m.heap m.stack m.bound go

-- what the rows up to and including the next step come to, and what they leave: a state after a step, or the end of the run
pub record Advanced : Type 0 where
  pub flow : ControlFlow Outcome StepState
  pub heap : List ℕ
  pub stack : List ℕ
  pub bound : List ℕ

abbrev pub advanced_to : ControlFlow Outcome StepState → (heap stack bound : List ℕ) → Advanced
advanced_to f ws stack bound = record { flow = f; heap = ws; stack = stack; bound = bound }

-- there are not so many rows without a step: what `advanced` gives `flow_of` is never the first case, by `never_goes` of proofs/NeverGoes.antt
abbrev pub turn_flow : StepTurn → ControlFlow Outcome StepState
turn_flow (Goes s) = Break (outcome_of Stuck s.steps s.first)
turn_flow (Steps s) = Continue s
turn_flow (Ends o) = Break o

abbrev pub flow_of : Turned → Advanced
flow_of m = advanced_to (turn_flow m.turn) m.heap m.stack m.bound

-- after a step the rest
abbrev pub step_then : ControlFlow Outcome StepState → (ws stack bound : List ℕ) → (StepState → (ws stack bound : List ℕ) → RunEnd) → RunEnd
step_then (Continue s) ws stack bound go = go s ws stack bound
step_then (Break o) ws stack bound go = run_end o ws stack bound

abbrev pub after_step : Advanced → (StepState → (ws stack bound : List ℕ) → RunEnd) → RunEnd
after_step m go = step_then m.flow m.heap m.stack m.bound go

-- where a run starts
abbrev pub start_state : Terms → StepState
start_state T = state_of 0 0 0 0 0 false 0 0 (start_hint T)

module _ (rows structs types : List ℕ) (T : Terms) where
  -- one row
  unfoldable pub row_turn : (ws stack bound : List ℕ) → StepState → Turned
  row_turn ws stack bound s =
      task_turn structs types T ws stack bound (looked s (inside_in (head_at rows s.row))) (task_in (head_at rows s.row))
      (slot_in (head_at rows s.row))
      (datum_at rows s.row)

  -- rows without a step, at most so many, and one more
  unfoldable pub advanced : (fuel : ℕ) → StepState → (ws stack bound : List ℕ) → Turned
  advanced zero s ws stack bound = row_turn ws stack bound s
  advanced (suc fuel) s ws stack bound = after_quiet (row_turn ws stack bound s) (advanced fuel)

  -- at most so many steps, and the end
  unfoldable pub drives : ℕ → StepState → (ws stack bound : List ℕ) → RunEnd
  drives zero s ws stack bound = after_step (flow_of (advanced (whole_rows rows) s ws stack bound))
      (λ s ws stack bound. run_end (outcome_of Stuck s.steps s.first) ws stack bound)
  drives (suc n) s ws stack bound = after_step (flow_of (advanced (whole_rows rows) s ws stack bound)) (drives n)

  -- from the start
  unfoldable pub step_run : (ws stack bound : List ℕ) → RunEnd
  step_run ws stack bound = drives T.limit (start_state T) ws stack bound
