-- Whatever an expression does next has a property: a node does as the part that steps does.
use Prim.Native.Nat.{ℕ}
use Rattle.cells.specs.Heap.{Heap}
use Rattle.cells.specs.declared.Mode.{Mode}
use Rattle.cells.specs.declared.Kind.{Kind}
use Rattle.calculus.specs.Expr.{Expr}
use Rattle.calculus.specs.Steps.{Step, done, stuck, halt, next, frame}
use Rattle.calculus.specs.declared.Halt.{Halt}

-- Whatever an expression does next: the mode of a halt, or of being stuck, satisfies Q; the step that it takes satisfies P.
pub data Every (Q : Mode → Type 0) (P : Heap → Expr → Mode → Type 0) : Step → Type 0 where
  every_value : {n : ℕ} {κ : Kind} → Every Q P (done n κ)
  every_stuck : {m : Mode} → Q m → Every Q P (stuck m)
  every_halt : {h : Halt} {m : Mode} → Q m → Every Q P (halt h m)
  every_next : {H : Heap} {e : Expr} {m : Mode} → P H e m → Every Q P (next H e m)

-- A node does as the part that steps does.
pub frame_every : {Q : Mode → Type 0} {P P' : Heap → Expr → Mode → Type 0} (around : Expr → Expr) (go : ℕ → Kind → Step) {s : Step}
    → Every Q P' s → ((H : Heap) (e : Expr) (m : Mode) → P' H e m → P H (around e) m)
    → ((n : ℕ) (κ : Kind) → Every Q P (go n κ)) → Every Q P (frame around s go)
frame_every around go every_value under rest = rest _ _
frame_every around go (every_stuck q) under rest = every_stuck q
frame_every around go (every_halt q) under rest = every_halt q
frame_every around go (every_next p) under rest = every_next (under _ _ _ p)

-- What follows from the property of every step.
pub every_map : {Q : Mode → Type 0} {P P' : Heap → Expr → Mode → Type 0} {s : Step}
    → ((H : Heap) (e : Expr) (m : Mode) → P H e m → P' H e m) → Every Q P s → Every Q P' s
every_map f every_value = every_value
every_map f (every_stuck q) = every_stuck q
every_map f (every_halt q) = every_halt q
every_map f (every_next p) = every_next (f _ _ _ p)
