-- What `run` promises: the steps of the model, which settle the answer and all lent memory; and, where the lent numbers hold a script, the
-- run of the definition.
use Rattle.std.specs.Prelude.{◌≡◌, ℕ, List, length}
use Rattle.cells.specs.Heap.{Heap}
use Rattle.cells.specs.Lent.{lent}
use Rattle.calculus.specs.Setting.{Setting}
use Rattle.calculus.specs.Expr.{Expr}
use Rattle.calculus.specs.Run.{Result, run}
use Rattle.calculus.specs.declared.Outcome.{Outcome}
use Rattle.yields.specs.declared.Terms.{Terms}
use Rattle.stepper.specs.Turns.{run_end, step_run}
use Rattle.stepper.specs.Ready.{StepReady}

-- the answer and the heap are those of a result of the definition, over the numbers that were lent; the heap has as many words as before
pub record RunAs (words : ℕ) (ws : List ℕ) (d : Result) (o : Outcome) (heap : List ℕ) : Type 0 where
  pub outcome : o ≡ d.outcome
  pub heap_held : heap ≡ lent d.heap ws
  pub heap_long : length d.heap ≡ words

-- what a run answers, o, and the lent memory that it leaves
pub record StepRan (rows structs types : List ℕ) (T : Terms) (heap stack bound : List ℕ) (o : Outcome) (heap' stack' bound' : List ℕ) : Type 0 where
  pub model : run_end o heap' stack' bound' ≡ step_run rows structs types T heap stack bound
  pub definition : (S : Setting) (H : Heap) (e : Expr) (ws : List ℕ) → StepReady S T H e ws heap stack bound rows structs types
      → RunAs T.words ws (run S T.limit H e) o heap'
