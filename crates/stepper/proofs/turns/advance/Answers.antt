-- The goals of `stepper::turns::advance` that the check leaves.
use Rattle.std.proofs.Common.{◌≡◌, ℕ, zero, suc, ◌+◌, ◌-◌, ◌<◌, List, sym, ap, ◌∙◌, arith}
use Rattle.calculus.specs.declared.Outcome.{Outcome}
use Rattle.yields.specs.declared.Terms.{Terms}
use Rattle.stepper.specs.declared.StepState.{StepState}
use Rattle.stepper.specs.declared.StepTurn.{StepTurn}
use Rattle.stepper.specs.declared.StepTurn.TheVariants.{Goes, Steps, Ends}
use Rattle.stepper.specs.States.{Turned, turned_to}
use Rattle.stepper.specs.Turns.{row_turn, advanced, flow_of}
use Rattle.stepper.proofs.turns.advance.Invariants.{Going}
use Rattle.stepper.proofs.turns.advance.Goals as goal

module _ (rows structs types : List ℕ) (T : Terms) (heap stack bound : List ℕ) (s : StepState) {r : StepTurn} {heap' stack' bound' : List ℕ}
    (e : turned_to r heap' stack' bound' ≡ row_turn rows structs types T heap stack bound s) where
  -- a row with a step, or an end, is all; one without is followed by the rest
  steps : {s' : StepState} (k : ℕ) → r ≡ Steps s' → advanced rows structs types T k s heap stack bound ≡ turned_to (Steps s') heap' stack' bound'
  unfolding advanced
  steps zero z = rw (← e, z)
  steps (suc k) z = rw (← e, z)

  ends : {o : Outcome} (k : ℕ) → r ≡ Ends o → advanced rows structs types T k s heap stack bound ≡ turned_to (Ends o) heap' stack' bound'
  unfolding advanced
  ends zero z = rw (← e, z)
  ends (suc k) z = rw (← e, z)

  last : {s' : StepState} → r ≡ Goes s' → advanced rows structs types T 0 s heap stack bound ≡ turned_to (Goes s') heap' stack' bound'
  unfolding advanced
  last z = rw (← e, z)

  quiet : {s' : StepState} (k : ℕ) → r ≡ Goes s'
      → advanced rows structs types T (suc k) s heap stack bound ≡ advanced rows structs types T k s' heap' stack' bound'
  unfolding advanced
  quiet k z = rw (← e, z)

  -- a row without a step keeps the invariant
  goes_on : {whole : Turned} {n i : ℕ} {s' : StepState} → Going whole rows structs types T n i heap stack bound s → i < n + 1 → r ≡ Goes s'
      → Going whole rows structs types T n (i + 1) heap' stack' bound' s'
  goes_on {n = n} {i = i} m l z =
      record {
        again = λ h. let k : n - i ≡ suc (n - (i + 1)) = omega arith in (rw k at (m.again (omega arith))) ∙ quiet (n - (i + 1)) z;
        spent = λ h. let k : n - i ≡ 0 = omega arith in ap flow_of ((rw k at (m.again (omega arith))) ∙ last z);
      }

pub returns-in-Steps : goal.returns-in-Steps
returns-in-Steps c = sym (ap flow_of (c.loop.invariant.again (omega arith) ∙ steps _ _ _ _ _ _ _ _ c.turn.ensures _ c.in-Steps.is))

pub returns-in-Ends : goal.returns-in-Ends
returns-in-Ends c = sym (ap flow_of (c.loop.invariant.again (omega arith) ∙ ends _ _ _ _ _ _ _ _ c.turn.ensures _ c.in-Ends.is))

pub loop-preserved : goal.loop-preserved
loop-preserved c = goes_on _ _ _ _ _ _ _ _ c.turn.ensures c.loop.invariant (omega arith) c.in-Goes.is
