-- What a run leaves that is cut at a lower limit: the heap after some steps, and the first unchecked step if it is among them.
use Rattle.std.specs.Prelude.{ℕ, zero, suc, ltb}
use Rattle.choice.specs.Choice.{choose}
use Rattle.cells.specs.Heap.{Heap}
use Rattle.cells.specs.declared.Mode.TheVariants.{Checked}
use Rattle.calculus.specs.Setting.{Setting}
use Rattle.calculus.specs.Expr.{Expr}
use Rattle.calculus.specs.Steps.{Step, done, stuck, halt, next, step}

-- the heap after a step, if one can be taken
abbrev pub onward_heap : Heap → Step → (Heap → Expr → Heap) → Heap
onward_heap H (done n κ) go = H
onward_heap H (stuck m) go = H
onward_heap H (halt h m) go = H
onward_heap H (next H' e m) go = go H' e

-- the heap after k steps; after fewer, if no more can be taken
unfoldable pub heap_after : Setting → (k : ℕ) → Heap → Expr → Heap
heap_after S zero H e = H
heap_after S (suc k) H e = onward_heap H (step S Checked H e) (heap_after S k)

-- the number of the first unchecked step, if it is one of the first k steps; else 0
abbrev pub up_to : (k first : ℕ) → ℕ
up_to k first = choose (ltb k first) (λ _. 0) (λ _. first)
