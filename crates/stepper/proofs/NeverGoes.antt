-- The rows up to and including the next step never end with a row that goes on without one: such a row goes to the next, and behind the last
-- whole row stands Stop.
use Rattle.std.proofs.Common.{◌≡◌, ℕ, zero, suc, ◌+◌, ◌^◌, ◌<◌, ◌≤◌, ◌==◌, List, arith, le-ltb}
use native.Mathlib.Decide.{dec_lt}
use Rattle.choice.specs.Choice.{choose_case}
use Rattle.calculus.specs.declared.Outcome.{Outcome}
use Rattle.calculus.proofs.Apart.{differ}
use Rattle.tables.specs.Heads.{task_in, inside_in}
use Rattle.tables.specs.Rows.{whole_rows, head_at}
use Rattle.yields.specs.declared.Terms.{Terms}
use Rattle.yields.specs.Malloc.{one_more}
use Rattle.stepper.specs.declared.StepState.{StepState}
use Rattle.stepper.specs.declared.StepTurn.{StepTurn}
use Rattle.stepper.specs.declared.StepTurn.TheVariants.{Goes, Steps, Ends}
use Rattle.stepper.specs.States.{Turned, looked}
use Rattle.stepper.specs.Stack.{stopped_at, task_turn}
use Rattle.stepper.specs.Turns.{row_turn, quiet_then, advanced}
use Rattle.stepper.proofs.RowWalk.{Comes, comes_on, row_comes}

-- a step or the end
data StepOrEnd : StepTurn → Type 0 where
  by_step : {s : StepState} → StepOrEnd (Steps s)
  by_end : {o : Outcome} → StepOrEnd (Ends o)

stops : (s : StepState) → StepOrEnd (stopped_at s)
unfolding stopped_at
stops s = choose_case StepOrEnd (s.height == 0) _ _ by_end by_end

module _ (rows structs types : List ℕ) (T : Terms) where
  -- behind the whole rows stands Stop
  behind : (ws stack bound : List ℕ) (s : StepState) → whole_rows rows ≤ s.row → StepOrEnd (row_turn rows structs types T ws stack bound s).turn
  unfolding row_turn head_at task_in task_turn
  behind ws stack bound s l =
      rw (le-ltb s.row (whole_rows rows) l) (stops (looked s (inside_in 0)))

  past : {row n : ℕ} (t : StepTurn) (ws stack bound : List ℕ) (go : StepState → (ws stack bound : List ℕ) → Turned)
      → ((s : StepState) (ws stack bound : List ℕ) → s.row ≡ one_more row → StepOrEnd (go s ws stack bound).turn)
      → Comes T.limit row n t → StepOrEnd (quiet_then t ws stack bound go).turn
  past (Goes s) ws stack bound go next (comes_on e same) = next s ws stack bound e
  past (Steps s) ws stack bound go next o = by_step
  past (Ends x) ws stack bound go next o = by_end

  past_settled : (t : StepTurn) (ws stack bound : List ℕ) (go : StepState → (ws stack bound : List ℕ) → Turned)
      → StepOrEnd t → StepOrEnd (quiet_then t ws stack bound go).turn
  past_settled (Goes s) ws stack bound go o = elim o [ ]
  past_settled (Steps s) ws stack bound go o = by_step
  past_settled (Ends x) ws stack bound go o = by_end

  -- a row, and the rows behind it
  row_then : (fuel : ℕ) (s : StepState) (ws stack bound : List ℕ) → whole_rows rows ≤ s.row + suc fuel → whole_rows rows < 2 ^ 62
      → ((s' : StepState) (ws' stack' bound' : List ℕ) → whole_rows rows ≤ s'.row + fuel
      → StepOrEnd (advanced rows structs types T fuel s' ws' stack' bound').turn)
      → Dec (s.row < whole_rows rows) → StepOrEnd (advanced rows structs types T (suc fuel) s ws stack bound).turn
  unfolding advanced
  row_then fuel s ws stack bound l few next (yes a) =
      let m = row_turn rows structs types T ws stack bound s in
      past m.turn m.heap m.stack m.bound (advanced rows structs types T fuel)
      (λ s' ws' stack' bound' e. next s' ws' stack' bound' (omega arith))
      (row_comes rows structs types T ws stack bound s)
  row_then fuel s ws stack bound l few next (no b) =
      let m = row_turn rows structs types T ws stack bound s in
      past_settled m.turn m.heap m.stack m.bound (advanced rows structs types T fuel) (behind ws stack bound s (omega arith))

  settled_within : (fuel : ℕ) (s : StepState) (ws stack bound : List ℕ) → whole_rows rows ≤ s.row + fuel → whole_rows rows < 2 ^ 62
      → StepOrEnd (advanced rows structs types T fuel s ws stack bound).turn
  unfolding advanced
  settled_within zero s ws stack bound l few = behind ws stack bound s (omega arith)
  settled_within (suc fuel) s ws stack bound l few =
      row_then fuel s ws stack bound l few (λ s' ws' stack' bound' l'. settled_within fuel s' ws' stack' bound' l' few)
      (dec_lt s.row (whole_rows rows))

none_goes : {t : StepTurn} {s : StepState} → StepOrEnd t → t ≡ Goes s → ⊥
none_goes by_step q = differ cc
none_goes by_end q = differ cc

-- What the rows of a slice come to is a step or the end.
pub never_goes : (rows structs types : List ℕ) (T : Terms) (s s' : StepState) (ws stack bound : List ℕ) → whole_rows rows < 2 ^ 62
    → (advanced rows structs types T (whole_rows rows) s ws stack bound).turn ≡ Goes s' → ⊥
never_goes rows structs types T s s' ws stack bound few =
    none_goes (settled_within rows structs types T (whole_rows rows) s ws stack bound (omega arith) few)
