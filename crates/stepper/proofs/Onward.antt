-- What rows do to the count of steps: those that go on without a step keep it, and a step is one more and below the limit.
use Rattle.std.proofs.Common.{◌≡◌, ℕ, zero, suc, ◌+◌, ◌^◌, ◌<◌, List, subst, arith}
use Rattle.std.specs.declared.ops.ControlFlow.TheVariants.{Continue}
use Rattle.calculus.specs.declared.Outcome.{Outcome}
use Rattle.calculus.proofs.Apart.{differ}
use Rattle.yields.specs.declared.Terms.{Terms}
use Rattle.yields.specs.Malloc.{one_more}
use Rattle.stepper.specs.declared.StepState.{StepState}
use Rattle.stepper.specs.declared.StepTurn.{StepTurn}
use Rattle.stepper.specs.declared.StepTurn.TheVariants.{Goes, Steps, Ends}
use Rattle.stepper.specs.States.{Turned}
use Rattle.stepper.specs.Turns.{row_turn, quiet_then, advanced, turn_flow, flow_of}
use Rattle.stepper.proofs.RowWalk.{Comes, comes_on, comes_step, comes_end, row_comes}

-- a row after n steps
pub data Onward (limit n : ℕ) : StepTurn → Type 0 where
  on_quiet : {s : StepState} → s.steps ≡ n → Onward limit n (Goes s)
  on_step : {s : StepState} → n < limit → s.steps ≡ one_more n → Onward limit n (Steps s)
  on_end : {o : Outcome} → Onward limit n (Ends o)

onward : {limit row n : ℕ} {t : StepTurn} → Comes limit row n t → Onward limit n t
onward (comes_on next same) = on_quiet same
onward (comes_step below more) = on_step below more
onward comes_end = on_end

module _ (rows structs types : List ℕ) (T : Terms) where
  on_past : {n : ℕ} (t : StepTurn) (ws stack bound : List ℕ) (go : StepState → (ws stack bound : List ℕ) → Turned)
      → ((s : StepState) (ws stack bound : List ℕ) → s.steps ≡ n → Onward T.limit n (go s ws stack bound).turn)
      → Onward T.limit n t → Onward T.limit n (quiet_then t ws stack bound go).turn
  on_past (Goes s) ws stack bound go next (on_quiet e) = next s ws stack bound e
  on_past (Steps s) ws stack bound go next o = o
  on_past (Ends x) ws stack bound go next o = o

  -- up to and including the next step
  pub on_advanced : (fuel : ℕ) (s : StepState) (ws stack bound : List ℕ) → Onward T.limit s.steps
      (advanced rows structs types T fuel s ws stack bound).turn
  unfolding advanced
  on_advanced zero s ws stack bound = onward (row_comes rows structs types T ws stack bound s)
  on_advanced (suc fuel) s ws stack bound =
      let m = row_turn rows structs types T ws stack bound s in
      on_past m.turn m.heap m.stack m.bound (advanced rows structs types T fuel)
      (λ s' ws' stack' bound' e.
      subst (λ (n : ℕ). Onward T.limit n (advanced rows structs types T fuel s' ws' stack' bound').turn) e (on_advanced fuel s' ws' stack' bound'))
      (onward (row_comes rows structs types T ws stack bound s))

-- a step after n steps, where the limit is a number of 64 bits
pub step_counted : {limit n : ℕ} {s : StepState} → Onward limit n (Steps s) → limit < 2 ^ 64 → (n < limit) × (s.steps ≡ n + 1)
step_counted (on_step l e) b = (l, omega arith)

-- what goes on is a step
flow_counted : {limit n : ℕ} {s : StepState} (t : StepTurn) → Onward limit n t → turn_flow t ≡ Continue s → limit < 2 ^ 64
    → (n < limit) × (s.steps ≡ n + 1)
flow_counted (Goes x) o e b = differ cc
flow_counted {s = s} (Steps x) o e b = let i : x ≡ s = cc in rw i at (step_counted o b)
flow_counted (Ends x) o e b = differ cc

-- so one that the rows go on from, whatever the rows are, has counted one step more
pub continue_counted : (rows structs types : List ℕ) (T : Terms) (fuel : ℕ) (s s' : StepState) (ws stack bound : List ℕ) → T.limit < 2 ^ 64
    → (flow_of (advanced rows structs types T fuel s ws stack bound)).flow ≡ Continue s' → (s.steps < T.limit) × (s'.steps ≡ s.steps + 1)
continue_counted rows structs types T fuel s s' ws stack bound b e =
    flow_counted (advanced rows structs types T fuel s ws stack bound).turn (on_advanced rows structs types T fuel s ws stack bound) e b
