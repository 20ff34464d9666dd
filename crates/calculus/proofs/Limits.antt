-- Two limits: a run with a lower limit answers as the run with a higher one does, unless that took more steps than the lower limit; then
-- it answers More, after as many steps as the lower limit, over the heap of those steps.
use Prim.Native.Nat.{ℕ, zero, suc, ◌≤◌, ◌<◌}
use mathlib.Core.Path.{◌≡◌, refl, ap, ◌∙◌}
use mathlib.Core.Logic.{◌↔◌}
use native.Mathlib.Omega.{arith}
use native.Mathlib.Decide.{dec_lt}
use borrow.Author.Tests.{lt-ltb, le-ltb}
use Rattle.cells.specs.Heap.{Heap}
use Rattle.cells.specs.declared.Mode.{Mode}
use Rattle.cells.specs.declared.Mode.TheVariants.{Checked, Unchecked}
use Rattle.calculus.specs.Setting.{Setting}
use Rattle.calculus.specs.Expr.{Expr}
use Rattle.calculus.specs.Steps.{Step, done, stuck, halt, next, step}
use Rattle.calculus.specs.Run.{Result, run, result, tick, at_limit, onward, first_at, first_after}
use Rattle.calculus.specs.declared.End.TheVariants.{More}
use Rattle.calculus.specs.Limits.{onward_heap, heap_after, up_to}
use Rattle.calculus.proofs.Counted.{allowed}

-- No step is among the first none.
up_zero : (first : ℕ) → up_to 0 first ≡ 0
up_zero zero = refl
up_zero (suc first) = rw (lt-ltb 0 (suc first) (omega arith))

-- One step more in front of all.
up_after : (m : Mode) (k first : ℕ) → first_after m (up_to k first) ≡ up_to (suc k) (first_after m first)
up_after Checked k zero = rw (le-ltb k 0 (omega arith), le-ltb (suc k) 0 (omega arith))
up_after Checked k (suc first) = go (dec_lt k (suc first))
  where
    go : Dec (k < suc first) → first_after Checked (up_to k (suc first)) ≡ up_to (suc k) (suc (suc first))
    go (yes l) = rw (lt-ltb k (suc first) l, lt-ltb (suc k) (suc (suc first)) (omega arith))
    go (no l) = rw (le-ltb k (suc first) (omega arith), le-ltb (suc k) (suc (suc first)) (omega arith))
up_after Unchecked k first = rw (le-ltb (suc k) 1 (omega arith))

-- A run that may take no step, and one that may and takes none.
zero_same : (H : Heap) (s : Step) (go : Heap → Expr → Result) → (onward H s go).outcome.steps ≤ 0 → at_limit H s ≡ onward H s go
zero_same H (done n κ) go l = refl
zero_same H (stuck m) go l = refl
zero_same H (halt h m) go l = absurd (omega arith)
zero_same H (next H' e m) go l = absurd (omega arith)

-- Two runs that may take a step.
onward_same : (a : ℕ) (H : Heap) (s : Step) (go go' : Heap → Expr → Result)
    → ((H : Heap) (e : Expr) → (go' H e).outcome.steps ≤ a → go H e ≡ go' H e)
    → (onward H s go').outcome.steps ≤ suc a → onward H s go ≡ onward H s go'
onward_same a H (done n κ) go go' rest l = refl
onward_same a H (stuck m) go go' rest l = refl
onward_same a H (halt h m) go go' rest l = refl
onward_same a H (next H' e m) go go' rest l = ap (tick m) (rest H' e (omega arith))

-- What takes no more steps than the lower limit is the same under it, the heap too.
pub same_below : (S : Setting) (a b : ℕ) (H : Heap) (e : Expr) → a ≤ b
    → (run S b H e).outcome.steps ≤ a → run S a H e ≡ run S b H e
unfolding run
same_below S zero zero H e l q = refl
same_below S zero (suc b) H e l q = zero_same H (step S Checked H e) (run S b) q
same_below S (suc a) zero H e l q = absurd (omega arith)
same_below S (suc a) (suc b) H e l q =
    onward_same a H (step S Checked H e) (run S a) (run S b) (λ H e. same_below S a b H e (omega arith)) q

-- A run that may take no step, and one that may and takes some.
zero_more : (H : Heap) (s : Step) (go : Heap → Expr → Result)
    → 0 < (onward H s go).outcome.steps → at_limit H s ≡ result More 0 (up_to 0 (onward H s go).outcome.first) H
zero_more H (done n κ) go l = absurd (omega arith)
zero_more H (stuck m) go l = absurd (omega arith)
zero_more H (halt h m) go l = rw (up_zero (first_at m))
zero_more H (next H' e m) go l = rw (up_zero (first_after m (go H' e).outcome.first))

onward_more : (a : ℕ) (H : Heap) (s : Step) (go go' : Heap → Expr → Result) (heap : Heap → Expr → Heap)
    → ((H : Heap) (e : Expr) → a < (go' H e).outcome.steps → go H e ≡ result More a (up_to a (go' H e).outcome.first) (heap H e))
    → suc a < (onward H s go').outcome.steps
    → onward H s go ≡ result More (suc a) (up_to (suc a) (onward H s go').outcome.first) (onward_heap H s heap)
onward_more a H (done n κ) go go' heap rest l = absurd (omega arith)
onward_more a H (stuck m) go go' heap rest l = absurd (omega arith)
onward_more a H (halt h m) go go' heap rest l = absurd (omega arith)
onward_more a H (next H' e m) go go' heap rest l =
    ap (tick m) (rest H' e (omega arith)) ∙ rw (up_after m a (go' H' e).outcome.first)

-- What takes more is cut at the lower limit: its whole answer there.
pub more_above : (S : Setting) (a b : ℕ) (H : Heap) (e : Expr) → a < (run S b H e).outcome.steps
    → run S a H e ≡ result More a (up_to a (run S b H e).outcome.first) (heap_after S a H e)
unfolding run heap_after
more_above S zero zero H e l = absurd (omega (arith, (allowed S zero H e).most))
more_above S (suc a) zero H e l = absurd (omega (arith, (allowed S zero H e).most))
more_above S zero (suc b) H e l = zero_more H (step S Checked H e) (run S b) l
more_above S (suc a) (suc b) H e l =
    onward_more a H (step S Checked H e) (run S a) (run S b) (heap_after S a) (more_above S a b) l

-- The theorem: exactly the runs that took more steps than the lower limit answer otherwise under it.
pub differs_above : (S : Setting) (a b : ℕ) (H : Heap) (e : Expr) → a ≤ b
    → ((run S a H e).outcome ≡ (run S b H e).outcome → ⊥) ↔ (a < (run S b H e).outcome.steps)
differs_above S a b H e l = (from, to)
  where
    from : ((run S a H e).outcome ≡ (run S b H e).outcome → ⊥) → a < (run S b H e).outcome.steps
    from n = go (dec_lt a (run S b H e).outcome.steps)
      where
        go : Dec (a < (run S b H e).outcome.steps) → a < (run S b H e).outcome.steps
        go (yes q) = q
        go (no q) = absurd (n (ap (λ r. r.outcome) (same_below S a b H e l (omega arith))))

    to : a < (run S b H e).outcome.steps → (run S a H e).outcome ≡ (run S b H e).outcome → ⊥
    to q p =
        let s : (run S a H e).outcome.steps ≡ (run S b H e).outcome.steps = ap (λ o. o.steps) p in
        absurd (omega (arith, (allowed S a H e).most))

-- The same of the whole result, the heap with it.
pub results_above : (S : Setting) (a b : ℕ) (H : Heap) (e : Expr) → a ≤ b
    → (run S a H e ≡ run S b H e → ⊥) ↔ (a < (run S b H e).outcome.steps)
results_above S a b H e l = (
  λ n. go n (dec_lt a (run S b H e).outcome.steps),
  λ q p. (differs_above S a b H e l).1 q (ap (λ r. r.outcome) p),
)
  where
    go : (run S a H e ≡ run S b H e → ⊥) → Dec (a < (run S b H e).outcome.steps) → a < (run S b H e).outcome.steps
    go n (yes q) = q
    go n (no q) = absurd (n (same_below S a b H e l (omega arith)))
