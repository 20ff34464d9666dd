-- A step makes no node of a kind that the expression has not; and an expression without an unchecked block takes no unchecked step.
use Prim.Native.Nat.{ℕ, zero, suc}
use mathlib.Core.Path.{◌≡◌, refl}
use lib.Dec.{eqb, ltb}
use Rattle.choice.specs.Choice.{choose_case}
use Rattle.cells.specs.Heap.{Heap}
use Rattle.cells.specs.declared.Mode.{Mode}
use Rattle.cells.specs.declared.Mode.TheVariants.{Checked}
use Rattle.cells.specs.declared.Cell.{Cell}
use Rattle.calculus.specs.Setting.{Setting, cell}
use Rattle.calculus.specs.Expr.{Expr, lit, bind, one, two, One, unchecked, cast, read, field, Two, act, pointer, inside, Made, of_lit, of_var, of_malloc, of_bind, of_one, of_two, NoBlock}
use Rattle.calculus.specs.Steps.{Step, step, replace, Redex, blocked, halts, gives, redex_step, malloc_redex, one_redex, act_redex}
use Rattle.calculus.specs.Run.{Result, run, at_limit, onward}
use Rattle.calculus.proofs.Every.{Every, every_value, every_stuck, every_halt, every_next, frame_every}

-- The step's mode is one of Q's, and it leaves such nodes.
abbrev pub Keeps : (O : One → Type 0) (W : Two → Type 0) (Q : Mode → Type 0) → Step → Type 0
Keeps O W Q = Every Q (λ H e m. Q m × Made O W e)

module _ {O : One → Type 0} {W : Two → Type 0} where
  -- A redex in code of such a mode does so.
  redex_keeps : {Q : Mode → Type 0} (m : Mode) (x : Redex) → Q m → Keeps O W Q (redex_step m x)
  redex_keeps m blocked q = every_stuck q
  redex_keeps m (halts h) q = every_halt q
  redex_keeps m (gives H n κ) q = every_next (q, of_lit)

  -- Replacing a variable makes no other node.
  pub replace_made : {e : Expr} (d : ℕ) (c : Cell) → Made O W e → Made O W (replace d c e)
  unfolding replace
  replace_made d c of_lit = of_lit
  replace_made d c (of_var {k}) =
      choose_case (Made O W) (ltb k d) _ _ of_var (choose_case (Made O W) (eqb k d) _ _ of_lit of_var)
  replace_made d c of_malloc = of_malloc
  replace_made d c (of_bind a b) = of_bind (replace_made d c a) (replace_made (suc d) c b)
  replace_made d c (of_one q e) = of_one q (replace_made d c e)
  replace_made d c (of_two q a b) = of_two q (replace_made d c a) (replace_made d c b)

  -- Where a part of a node in code of the modes Q is in code of these modes, a step keeps both.
  module _ {Q : Mode → Type 0} (into : (o : One) (m : Mode) → O o → Q m → Q (inside o m)) where
    pub step_keeps : {e : Expr} (S : Setting) (m : Mode) (H : Heap) → Q m → Made O W e → Keeps O W Q (step S m H e)
    unfolding step
    step_keeps S m H q of_lit = every_value
    step_keeps S m H q of_var = every_stuck q
    step_keeps S m H q (of_malloc {ω}) = redex_keeps m (malloc_redex S H (pointer Checked ω)) q
    step_keeps S m H q (of_bind {b} a d) =
        frame_every (λ a. bind a b) _ (step_keeps S m H q a) (λ H' e m p. (p.0, of_bind p.1 d))
        (λ n κ. every_next (q, replace_made 0 (cell n κ) d))
    step_keeps S m H q (of_one {o} p e) =
        frame_every (one o) _ (step_keeps S (inside o m) H (into o m p q) e) (λ H' e m r. (r.0, of_one p r.1))
        (λ n κ. redex_keeps m (one_redex S H o n κ) q)
    step_keeps S m H q (of_two {o = act o} {b} p a d) =
        frame_every (λ a. two (act o) a b) _ (step_keeps S m H q a) (λ H' e m r. (r.0, of_two p r.1 d)) λ n κ.
        frame_every (two (act o) (lit n κ)) _ (step_keeps S m H q d) (λ H' e m r. (r.0, of_two p of_lit r.1))
        (λ k κ'. redex_keeps m (act_redex S H o n κ k κ') q)

-- The step is checked, and leaves no block.
abbrev Free : Step → Type 0
Free = Every (λ m. m ≡ Checked) (λ H e m. (m ≡ Checked) × NoBlock e)

-- A node that is no block leaves the mode.
inside_checked : (o : One) (m : Mode) → (o ≡ unchecked → ⊥) → m ≡ Checked → inside o m ≡ Checked
inside_checked unchecked m q p = absurd (q refl)
inside_checked (cast κ) m q p = p
inside_checked read m q p = p
inside_checked (field f) m q p = p

-- Without a block every step is checked.
step_free : {e : Expr} (S : Setting) (H : Heap) → NoBlock e → Free (step S Checked H e)
step_free S H b = step_keeps inside_checked S Checked H refl b

-- A run of such steps has no unchecked step at its limit ..
limit_first : {s : Step} (H : Heap) → Free s → (at_limit H s).outcome.first ≡ 0
limit_first H every_value = refl
limit_first H (every_stuck q) = rw q
limit_first H (every_halt q) = refl
limit_first H (every_next p) = refl

-- .. and none before it, if the rest has none.
onward_first : {s : Step} (H : Heap) (go : Heap → Expr → Result) → Free s
    → ((H : Heap) (e : Expr) → NoBlock e → (go H e).outcome.first ≡ 0) → (onward H s go).outcome.first ≡ 0
onward_first H go every_value rest = refl
onward_first H go (every_stuck q) rest = rw q
onward_first H go (every_halt q) rest = rw q
onward_first H go (every_next (q, b)) rest = rw (q, rest _ _ b)

-- The theorem: an expression without an unchecked block takes no unchecked step.
pub no_block : (S : Setting) (limit : ℕ) (H : Heap) (e : Expr) → NoBlock e → (run S limit H e).outcome.first ≡ 0
unfolding run
no_block S zero H e b = limit_first H (step_free S H b)
no_block S (suc limit) H e b = onward_first H (run S limit) (step_free S H b) (no_block S limit)
