-- How a run ends: "A run takes a step limit, a count of steps that it may take. A halt is itself a step; being Stuck is not. More is
-- given exactly if the limit's steps were taken and the state is neither a value nor stuck nor ended by a halt."
use Rattle.std.specs.Prelude.{ℕ, zero, suc}
use Rattle.cells.specs.Heap.{Heap}
use Rattle.cells.specs.declared.Mode.{Mode}
use Rattle.cells.specs.declared.Mode.TheVariants.{Checked, Unchecked}
use Rattle.calculus.specs.Setting.{Setting, cell}
use Rattle.calculus.specs.Expr.{Expr}
use Rattle.calculus.specs.Steps.{Step, done, stuck, halt, next, step}
use Rattle.calculus.specs.declared.End.{End}
use Rattle.calculus.specs.declared.End.TheVariants.{Value, Halted, Stuck, More}
use Rattle.calculus.specs.declared.Outcome.{Outcome}

-- what a run answers, and the heap that it leaves
pub record Result : Type 0 where
  pub outcome : Outcome
  pub heap : Heap

abbrev pub outcome_of : End → (steps first : ℕ) → Outcome
outcome_of end steps first = record { end = end; steps = steps; first = first }

abbrev pub result : End → (steps first : ℕ) → Heap → Result
result end steps first H = record { outcome = outcome_of end steps first; heap = H }

-- "the number of the first unchecked step, 0 if none", where the very next step is of this mode
abbrev pub first_at : Mode → ℕ
first_at Checked = 0
first_at Unchecked = 1

-- the number of the first unchecked step, where a step of this mode comes before those counted
abbrev pub first_after : Mode → ℕ → ℕ
first_after Checked zero = 0
first_after Checked (suc first) = suc (suc first)
first_after Unchecked first = 1

-- a step of a mode, and then the rest: what that makes of the outcome; the heap is the rest's
abbrev pub ticked : Mode → Outcome → Outcome
ticked m o = outcome_of o.end (suc o.steps) (first_after m o.first)

abbrev pub tick : Mode → Result → Result
tick m r = record { outcome = ticked m r.outcome; heap = r.heap }

-- No step may be taken any more. "A redex stuck inside an unchecked block counts as step steps + 1."
abbrev pub at_limit : Heap → Step → Result
at_limit H (done n κ) = result (Value (cell n κ)) 0 0 H
at_limit H (stuck m) = result Stuck 0 (first_at m) H
at_limit H (halt h m) = result More 0 0 H
at_limit H (next H' e m) = result More 0 0 H

-- A step may be taken.
abbrev pub onward : Heap → Step → (Heap → Expr → Result) → Result
onward H (done n κ) go = result (Value (cell n κ)) 0 0 H
onward H (stuck m) go = result Stuck 0 (first_at m) H
onward H (halt h m) go = result (Halted h) 1 (first_at m) H
onward H (next H' e m) go = tick m (go H' e)

-- the run of an expression over a heap, with at most `limit` steps
unfoldable pub run : Setting → (limit : ℕ) → Heap → Expr → Result
run S zero H e = at_limit H (step S Checked H e)
run S (suc limit) H e = onward H (step S Checked H e) (run S limit)
