-- One context lemma for all frames: what the expression in a context does next, the whole does.
use mathlib.Core.Path.{◌≡◌, refl, ◌∙◌}
use mathlib.Core.List.{List, [], ◌∷◌}
use Rattle.cells.specs.Heap.{Heap}
use Rattle.cells.specs.declared.Mode.{Mode}
use Rattle.cells.specs.declared.Mode.TheVariants.{Checked}
use Rattle.cells.specs.declared.Cell.{Cell}
use Rattle.calculus.specs.Setting.{Setting}
use Rattle.calculus.specs.Expr.{Expr, lit, bind, one, two, One, act, inside}
use Rattle.calculus.specs.Steps.{Step, done, stuck, halt, next, step, frame}
use Rattle.calculus.specs.declared.Act.{Act}
use Rattle.calculus.specs.declared.Halt.{Halt}

-- a node with a hole for the part that is evaluated, and contexts, the innermost node first
pub data Hole : Type 0 where
  in_one : One → Hole
  in_bound : Expr → Hole
  in_left : Act → Expr → Hole
  in_right : Act → Cell → Hole

abbrev pub plug : Hole → Expr → Expr
plug (in_one o) e = one o e
plug (in_bound b) e = bind e b
plug (in_left o b) e = two (act o) e b
plug (in_right o c) e = two (act o) (lit c.value c.kind) e

abbrev pub plugs : List Hole → Expr → Expr
plugs [] e = e
plugs (f ∷ K) e = plugs K (plug f e)

-- the mode inside a hole, and inside a context of the whole expression
abbrev pub inner : Hole → Mode → Mode
inner (in_one o) m = inside o m
inner (in_bound b) m = m
inner (in_left o b) m = m
inner (in_right o c) m = m

abbrev pub under : List Hole → Mode
under [] = Checked
under (f ∷ K) = inner f (under K)

-- what is no value, and what becomes of it in a context
pub data Busy : Step → Type 0 where
  busy_stuck : {m : Mode} → Busy (stuck m)
  busy_halt : {h : Halt} {m : Mode} → Busy (halt h m)
  busy_next : {H : Heap} {e : Expr} {m : Mode} → Busy (next H e m)

abbrev pub carry : (Expr → Expr) → Step → Step
carry k (done n κ) = done n κ
carry k (stuck m) = stuck m
carry k (halt h m) = halt h m
carry k (next H e m) = next H (k e) m

carry_busy : (k : Expr → Expr) {s : Step} → Busy s → Busy (carry k s)
carry_busy k busy_stuck = busy_stuck
carry_busy k busy_halt = busy_halt
carry_busy k busy_next = busy_next

frame_busy : (k : Expr → Expr) (go : _ → _ → Step) {s : Step} → Busy s → frame k s go ≡ carry k s
frame_busy k go busy_stuck = refl
frame_busy k go busy_halt = refl
frame_busy k go busy_next = refl

carry_none : {s : Step} → Busy s → s ≡ carry (plugs []) s
carry_none busy_stuck = refl
carry_none busy_halt = refl
carry_none busy_next = refl

carry_more : (f : Hole) (K : List Hole) {s : Step} → Busy s → carry (plugs K) (carry (plug f) s) ≡ carry (plugs (f ∷ K)) s
carry_more f K busy_stuck = refl
carry_more f K busy_halt = refl
carry_more f K busy_next = refl

module _ (S : Setting) (H : Heap) where
  split : (f : Hole) (m : Mode) (e : Expr) {s : Step} → step S (inner f m) H e ≡ s → Busy s → step S m H (plug f e) ≡ carry (plug f) s
  unfolding step
  split (in_one o) m e q b = rw q (frame_busy (one o) _ b)
  split (in_bound b') m e q b = rw q (frame_busy (λ a'. bind a' b') _ b)
  split (in_left o b') m e q b = rw q (frame_busy (λ a'. two (act o) a' b') _ b)
  split (in_right o c) m e q b = rw q (frame_busy (two (act o) (lit c.value c.kind)) _ b)

  pub context : (K : List Hole) (e : Expr) {s : Step} → step S (under K) H e ≡ s → Busy s → step S Checked H (plugs K e) ≡ carry (plugs K) s
  context [] e q b = q ∙ carry_none b
  context (f ∷ K) e q b = context K (plug f e) (split f (under K) e q b) (carry_busy (plug f) b) ∙ carry_more f K b
