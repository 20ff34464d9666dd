-- Checked code cannot be blamed: a run of a well-typed script that takes no unchecked step never ends Stuck, and a value that it ends
-- with has the script's type and is well typed over the heap that the run leaves.
use Prim.Native.Nat.{ℕ, zero, suc}
use mathlib.Core.Path.{◌≡◌, refl, subst}
use mathlib.Core.List.{[]}
use native.Mathlib.Omega.{arith}
use lib.ListN.{length}
use Rattle.cells.specs.Heap.{Heap}
use Rattle.cells.specs.declared.Mode.{Mode}
use Rattle.cells.specs.declared.Mode.TheVariants.{Checked, Unchecked}
use Rattle.cells.specs.declared.Kind.{Kind}
use Rattle.cells.specs.declared.Cell.{Cell}
use Rattle.calculus.specs.Setting.{Setting, cell}
use Rattle.calculus.specs.Expr.{Expr, NoBlock}
use Rattle.calculus.specs.Literal.{WellLit}
use Rattle.calculus.specs.Typing.{whole, Typed, t_lit}
use Rattle.calculus.specs.Steps.{Step}
use Rattle.calculus.specs.Run.{Result, run, at_limit, onward, first_after}
use Rattle.calculus.specs.GoodEnd.{Sized, GoodEnd, good_value, good_halt, good_more}
use Rattle.calculus.specs.declared.End.{End}
use Rattle.calculus.specs.declared.End.TheVariants.{Value, Stuck}
use Rattle.calculus.proofs.Apart.{differ}
use Rattle.calculus.proofs.Blame.{Fine, is_value, is_stuck, is_halt, is_unchecked, is_typed, blame}
use Rattle.calculus.proofs.Every.{every_next}
use Rattle.calculus.proofs.Changes.{Long, step_long}
use Rattle.calculus.proofs.NoBlock.{no_block}

-- Where a step and then the rest hold no unchecked step, neither does the rest.
pub first_after_lem : (m : Mode) (first : ℕ) → first_after m first ≡ 0 → first ≡ 0
first_after_lem Checked zero q = refl
first_after_lem Checked (suc first) q = absurd (omega arith)
first_after_lem Unchecked first q = absurd (omega arith)

-- A heap as long is sized as well.
pub sized_long : {S : Setting} {H H' : Heap} → Sized S H → length H' ≡ length H → Sized S H'
sized_long sized l = record { above = sized.above; within = rw l sized.within; wide = rw l sized.wide }

module _ {S : Setting} {H : Heap} {κ : Kind} where
  -- A run at its limit.
  limit_good : {s : Step} → Fine S H whole Checked κ s → (at_limit H s).outcome.first ≡ 0
      → GoodEnd S (at_limit H s).heap κ (at_limit H s).outcome.end
  limit_good (is_value (t_lit w)) q = good_value w
  limit_good is_stuck q = absurd (omega arith)
  limit_good is_halt q = good_more
  limit_good is_unchecked q = good_more
  limit_good (is_typed k d) q = good_more

  -- A run that may take a step, and the rest.
  onward_good : (go : Heap → Expr → Result) {s : Step} → Sized S H → Fine S H whole Checked κ s → Long H s
      → ((H : Heap) (e : Expr) → Sized S H → Typed S H whole [] Checked e κ → (go H e).outcome.first ≡ 0
      → GoodEnd S (go H e).heap κ (go H e).outcome.end)
      → (onward H s go).outcome.first ≡ 0 → GoodEnd S (onward H s go).heap κ (onward H s go).outcome.end
  onward_good go sized (is_value (t_lit w)) l rest q = good_value w
  onward_good go sized is_stuck l rest q = absurd (omega arith)
  onward_good go sized is_halt l rest q = good_halt
  onward_good go sized is_unchecked l rest q = absurd (omega arith)
  onward_good go sized (is_typed {m'} k d) (every_next l) rest q = rest _ _ (sized_long sized l) d (first_after_lem m' _ q)

-- Every run.
good_end : (S : Setting) (limit : ℕ) (H : Heap) (e : Expr) {κ : Kind} → Sized S H → Typed S H whole [] Checked e κ
    → (run S limit H e).outcome.first ≡ 0 → GoodEnd S (run S limit H e).heap κ (run S limit H e).outcome.end
unfolding run
good_end S zero H e sized d q = limit_good (blame sized d) q
good_end S (suc limit) H e sized d q =
    onward_good (run S limit) sized (blame sized d) (step_long S H Checked e) (λ H e z d. good_end S limit H e z d) q

-- A good end's value has the script's type, and is well typed.
good_well : {S : Setting} {H : Heap} {κ : Kind} {end : End} (c : Cell)
    → GoodEnd S H κ end → end ≡ Value c → (c.kind ≡ κ) × WellLit S H [] c.value c.kind
good_well {S} {H} {κ} c (good_value {n} w) q =
    let p : cell n κ ≡ c = cc in subst (λ (c : Cell). (c.kind ≡ κ) × WellLit S H [] c.value c.kind) p (refl, w)
good_well c good_halt q = differ cc
good_well c good_more q = differ cc

-- A good end is not Stuck.
good_moves : {S : Setting} {H : Heap} {κ : Kind} {end : End} → GoodEnd S H κ end → end ≡ Stuck → ⊥
good_moves (good_value w) q = differ cc
good_moves good_halt q = differ cc
good_moves good_more q = differ cc

module _ (S : Setting) (H : Heap) (e : Expr) (κ : Kind) (limit : ℕ)
    (sized : Sized S H) (typed : Typed S H whole [] Checked e κ) (checked : (run S limit H e).outcome.first ≡ 0) where
  -- The theorem: a run of a well-typed script without an unchecked step has a good end.
  pub blameless : GoodEnd S (run S limit H e).heap κ (run S limit H e).outcome.end
  blameless = good_end S limit H e sized typed checked

  -- It is never Stuck.
  pub never_stuck : (run S limit H e).outcome.end ≡ Stuck → ⊥
  never_stuck = good_moves blameless

  -- A value that it ends with has the script's type, and is well typed over the heap that the run leaves.
  pub stays_typed : (c : Cell) → (run S limit H e).outcome.end ≡ Value c
      → (c.kind ≡ κ) × WellLit S (run S limit H e).heap [] c.value c.kind
  stays_typed c q = good_well c blameless q

-- A well-typed script without an unchecked block has a good end.
pub all_checked : (S : Setting) (H : Heap) (e : Expr) (κ : Kind) (limit : ℕ) → Sized S H → Typed S H whole [] Checked e κ → NoBlock e
    → GoodEnd S (run S limit H e).heap κ (run S limit H e).outcome.end
all_checked S H e κ limit sized typed none = blameless S H e κ limit sized typed (no_block S limit H e none)
