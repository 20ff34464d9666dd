-- The goals of `stepper::turns::run` that the check leaves.
use Rattle.std.proofs.Common.{◌≡◌, ℕ, zero, suc, ◌+◌, ◌-◌, List, ControlFlow, Continue, Break, sym, ◌∙◌, arith}
use Rattle.calculus.specs.Run.{outcome_of}
use Rattle.calculus.specs.declared.End.TheVariants.{Stuck}
use Rattle.calculus.specs.declared.Outcome.{Outcome}
use Rattle.tables.specs.Rows.{whole_rows}
use Rattle.yields.specs.declared.Terms.{Terms}
use Rattle.stepper.specs.declared.StepState.{StepState}
use Rattle.stepper.specs.Turns.{RunEnd, run_end, advanced, Advanced, advanced_to, flow_of, after_step, drives, step_run}
use Rattle.stepper.proofs.RunSteps.{as_ran}
use Rattle.stepper.proofs.turns.run.Goals as goal
use Rattle.stepper.proofs.turns.run.Goals.{else-loop-test, then-loop-test+in-Continue+else-counter-end}

abbrev After : Type 0
After = StepState → (ws stack bound : List ℕ) → RunEnd

-- an end is the run's; a step is followed by the rest
ends : {f : ControlFlow Outcome StepState} {heap stack bound : List ℕ} {a : Advanced} {o : Outcome} (go : After)
    → advanced_to f heap stack bound ≡ a → f ≡ Break o → after_step a go ≡ run_end o heap stack bound
ends go e z = rw (← e, z)

goes_on : {f : ControlFlow Outcome StepState} {heap stack bound : List ℕ} {a : Advanced} {s : StepState} (go : After)
    → advanced_to f heap stack bound ≡ a → f ≡ Continue s → after_step a go ≡ go s heap stack bound
goes_on go e z = rw (← e, z)

module _ (rows structs types : List ℕ) (T : Terms) (heap stack bound : List ℕ) (s : StepState) {f : ControlFlow Outcome StepState}
    {heap' stack' bound' : List ℕ}
    (e : advanced_to f heap' stack' bound' ≡ flow_of (advanced rows structs types T (whole_rows rows) s heap stack bound)) where
  drives_ends : {o : Outcome} (n : ℕ) → f ≡ Break o → drives rows structs types T n s heap stack bound ≡ run_end o heap' stack' bound'
  unfolding drives
  drives_ends zero z = ends _ e z
  drives_ends (suc n) z = ends _ e z

  drives_on : {s' : StepState} (n : ℕ) → f ≡ Continue s'
      → drives rows structs types T (suc n) s heap stack bound ≡ drives rows structs types T n s' heap' stack' bound'
  unfolding drives
  drives_on n z = goes_on _ e z

  drives_spent : {s' : StepState} → f ≡ Continue s'
      → drives rows structs types T 0 s heap stack bound ≡ run_end (outcome_of Stuck s'.steps s'.first) heap' stack' bound'
  unfolding drives
  drives_spent z = goes_on _ e z

pub loop-init : goal.loop-init
unfolding step_run
loop-init c = let z : c.args.script.now.terms.limit - 0 ≡ c.args.script.now.terms.limit = omega arith in rw (z, c.at_start-s.ensures)

pub loop-preserved : goal.loop-preserved
loop-preserved c =
    let l = c.args.script.now.terms.limit in
    let k : l - c.loop.counter ≡ suc (l - (c.loop.counter + 1)) = omega arith in
    (rw k at c.loop.invariant) ∙ drives_on _ _ _ _ _ _ _ _ c.advance.ensures _ c.in-Continue.is

pub returns-in-Break : goal.returns-in-Break
returns-in-Break c = as_ran (omega arith) (sym (c.loop.invariant ∙ drives_ends _ _ _ _ _ _ _ _ c.advance.ensures _ c.in-Break.is))

pub returns : goal.returns
returns c =
    elim c.loop-test.branch [
      | else-loop-test w ↦ absurd (omega arith)
      | then-loop-test+in-Continue+else-counter-end w ↦
          (let k : c.args.script.now.terms.limit - c.loop.counter ≡ 0 = omega arith in
          rw (c.outcome.ensures, w.heap-is, w.stack-is, w.bound-is, w.s-is)
          (as_ran (omega arith) (sym ((rw k at c.loop.invariant) ∙ drives_spent _ _ _ _ _ _ _ _ w.advance.ensures w.in-Continue.is))))
    ]
