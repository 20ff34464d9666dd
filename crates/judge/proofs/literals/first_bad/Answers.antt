-- The goals of `judge::literals::first_bad` that the check leaves.
use Rattle.judge.proofs.literals.first_bad.Goals as goal
use Rattle.judge.proofs.literals.first_bad.Invariants.{done, stops, turn}

pub returns-in_default : goal.returns-in_default
returns-in_default c = rw (← (c.fill.ensures.after (λ y e. e))) (stops _ _ _ _ c.loop-i.invariant c.loop-i-test.true (rw c.in_default.is at c.node_look.ensures))

pub loop-i-preserved : goal.loop-i-preserved
loop-i-preserved c = turn _ _ _ _ c.loop-i.invariant c.loop-i-test.true (rw c.in-Some.is at c.node_look.ensures)

pub returns : goal.returns
returns c = rw (← (c.fill.ensures.after (λ y e. e))) (done _ _ _ _ c.loop-i.invariant c.loop-i.auto.i-end c.loop-i-test.false)
