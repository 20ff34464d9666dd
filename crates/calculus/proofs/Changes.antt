-- What a step does to the heap: nothing, one word replaced, or a run taken. From that follow the heap's length and that a defined word
-- stays defined, for a step and for a run.
use Rattle.std.specs.Prelude.{Option, Some, None}
use Prim.Native.Nat.{ℕ, zero, suc, ◌+◌, ◌≤◌, ◌<◌}
use native.Mathlib.Decide.{ℕ_discrete}
use mathlib.Core.Path.{◌≡◌, refl, ◌∙◌}
use mathlib.Core.Logic.{◌⊎◌, inl, inr}
use mathlib.Core.Bool.{false}
use lib.Dec.{eqb, ltb}
use lib.ListN.{length}
use Rattle.choice.specs.Choice.{choose_case, both}
use Rattle.cells.specs.Heap.{Heap, look, update, undefined}
use Rattle.cells.specs.Free.{lowest_in}
use Rattle.cells.specs.declared.Mode.{Mode}
use Rattle.cells.specs.declared.Mode.TheVariants.{Checked}
use Rattle.cells.specs.declared.Kind.{Kind}
use Rattle.cells.specs.declared.Kind.TheVariants.{Int, Word, Struct, Array}
use Rattle.cells.specs.declared.Cell.{Cell}
use Rattle.calculus.specs.Setting.{Setting, cell, fields_of, size, is_checked, checked_pointer, checked_empty}
use Rattle.calculus.specs.Expr.{Expr, lit, var, malloc, bind, one, two, One, unchecked, cast, read, field, act, pointer, inside}
use Rattle.calculus.specs.Steps.{Step, done, stuck, halt, next, step, Redex, blocked, halts, gives, redex_step, defined_then, word_then, sum_redex, field_redex, taken_from, malloc_redex, one_redex, act_redex, checked_array, zeroed}
use Rattle.calculus.specs.declared.Act.{Act}
use Rattle.calculus.specs.declared.Act.TheVariants.{Assign, Sum}
use Rattle.calculus.specs.declared.Halt.{Halt}
use Rattle.calculus.specs.Run.{Result, run, at_limit, onward}
use Rattle.cells.proofs.Heaps.{length_update, look_same, look_other}
use Rattle.cells.proofs.Free.{lowest}
use Rattle.calculus.proofs.Same.{as_true, refuted}
use Rattle.calculus.proofs.Zeroed.{look_inside, length_zeroed, zeroed_other}
use Rattle.calculus.proofs.Every.{Every, every_value, every_stuck, every_halt, every_next, frame_every, every_map}

-- The three ways in which a step leaves a heap: as it was; with a defined word replaced; with the lowest run of undefined words taken.
pub data Change (S : Setting) (H : Heap) : Heap → Type 0 where
  nothing : Change S H H
  replaced : (a : ℕ) (c : Cell) {d : Cell} → look H a ≡ Some d → Change S H (update H a c)
  taken : (κ : Kind) {a : ℕ} → lowest_in (λ b. undefined (look H b)) (size S κ) S.low S.high ≡ Some a
      → Change S H (zeroed S κ (size S κ) a 0 H)

-- What a redex leaves is such a heap.
data Leaves (S : Setting) (H : Heap) : Redex → Type 0 where
  leaves_stuck : Leaves S H blocked
  leaves_halt : {h : Halt} → Leaves S H (halts h)
  leaves_value : {H' : Heap} {n : ℕ} {κ : Kind} → Change S H H' → Leaves S H (gives H' n κ)

-- The step's heap is such a heap.
abbrev pub Changes : Setting → Heap → Step → Type 0
Changes S H = Every (λ m. Unit {0}) (λ H' e m. Change S H H')

redex_changes : {S : Setting} {H : Heap} {x : Redex} (m : Mode) → Leaves S H x → Changes S H (redex_step m x)
redex_changes m leaves_stuck = every_stuck tt
redex_changes m leaves_halt = every_halt tt
redex_changes m (leaves_value l) = every_next l

module _ (S : Setting) (H : Heap) where
  -- A read or an assign, with what it does with the word.
  word_leaves : (n : ℕ) (κ : Kind) (go : Cell → Redex) → ((c : Cell) → look H n ≡ Some c → Leaves S H (go c))
      → Leaves S H (word_then H n κ go)
  unfolding word_then
  word_leaves n κ go rest =
      choose_case (Leaves S H) (both (checked_pointer κ) (eqb n 0)) _ _ leaves_halt
      (choose_case (Leaves S H) (checked_empty κ) _ _ leaves_halt (found (look H n) refl))
    where
      found : (x : Option Cell) → look H n ≡ x → Leaves S H (defined_then x go)
      found None q = leaves_stuck
      found (Some c) q = rest c q

  -- A node with one part that is a value.
  one_leaves : (o : One) (n : ℕ) (κ : Kind) → Leaves S H (one_redex S H o n κ)
  unfolding field_redex
  one_leaves unchecked n κ = leaves_value nothing
  one_leaves (cast κ') n κ = leaves_value nothing
  one_leaves read n κ = word_leaves n κ _ (λ c q. leaves_value nothing)
  one_leaves (field f) n Int = leaves_stuck
  one_leaves (field f) n (Word m t) = leaves_stuck
  one_leaves (field f) n (Struct m s) =
      choose_case (Leaves S H) (ltb f (length (fields_of S s))) _ _
      (choose_case (Leaves S H) (both (is_checked m) (eqb n 0)) _ _ leaves_halt (leaves_value nothing)) leaves_stuck
  one_leaves (field f) n (Array m k t) = leaves_stuck

  -- What is done with two values.
  act_leaves : (o : Act) (n : ℕ) (κ : Kind) (k : ℕ) (κ' : Kind) → Leaves S H (act_redex S H o n κ k κ')
  unfolding sum_redex
  act_leaves Assign n κ k κ' = word_leaves n κ _ (λ c q. leaves_value (replaced n (cell k κ') q))
  act_leaves Sum n κ k κ' = choose_case (Leaves S H) (both (checked_array κ) (eqb n 0)) _ _ leaves_halt (leaves_value nothing)

  -- A malloc.
  malloc_leaves : (κ : Kind) → Leaves S H (malloc_redex S H κ)
  unfolding malloc_redex
  malloc_leaves κ =
      choose_case (Leaves S H) (eqb (size S κ) 0) _ _ leaves_stuck (run_taken (lowest_in _ (size S κ) S.low S.high) refl)
    where
      run_taken : (x : Option ℕ) → lowest_in (λ b. undefined (look H b)) (size S κ) S.low S.high ≡ x → Leaves S H (taken_from S H κ x)
      run_taken (Some a) q = leaves_value (taken κ q)
      run_taken None q = leaves_halt

  -- Every step's heap is such a heap, in either mode.
  pub step_changes : (m : Mode) (e : Expr) → Changes S H (step S m H e)
  unfolding step
  step_changes m (lit n κ) = every_value
  step_changes m (var k) = every_stuck tt
  step_changes m (malloc ω) = redex_changes m (malloc_leaves (pointer Checked ω))
  step_changes m (bind a b) = frame_every (λ a. bind a b) _ (step_changes m a) (λ H' e m l. l) (λ n κ. every_next nothing)
  step_changes m (one o e) =
      frame_every (one o) _ (step_changes (inside o m) e) (λ H' e m l. l) (λ n κ. redex_changes m (one_leaves o n κ))
  step_changes m (two (act o) a b) =
      frame_every (λ a. two (act o) a b) _ (step_changes m a) (λ H' e m l. l) λ n κ.
      frame_every (two (act o) (lit n κ)) _ (step_changes m b) (λ H' e m l. l) (λ k κ'. redex_changes m (act_leaves o n κ k κ'))

-- Such a heap is as long.
pub change_length : {S : Setting} {H H' : Heap} → Change S H H' → length H' ≡ length H
change_length nothing = refl
change_length {H} (replaced a c q) = length_update H a c
change_length {S} {H} (taken κ {a} q) = length_zeroed S κ (size S κ) a 0 H

-- A defined word of it is the same, unless it is the one replaced.
pub change_same : {S : Setting} {H H' : Heap} → Change S H H' → (b : ℕ) (c : Cell) → look H b ≡ Some c
    → (look H' b ≡ Some c) ⊎ ((d : Cell) × (H' ≡ update H b d))
change_same nothing b c h = inl h
change_same {H} (replaced a d q) b c h = go (ℕ_discrete b a)
  where
    go : Dec (b ≡ a) → (look (update H a d) b ≡ Some c) ⊎ ((d' : Cell) × (update H a d ≡ update H b d'))
    go (yes e) = inr (d, rw e)
    go (no n) = inl (look_other H a b d n ∙ h)
change_same {S} {H} (taken κ {a} q) b c h = inl (zeroed_other S κ (size S κ) a 0 H b outside ∙ h)
  where
    outside : a ≤ b → b < a + size S κ → ⊥
    outside l m =
        let f : undefined (look H b) ≡ false = rw h in
        refuted f (as_true ((lowest (λ b. undefined (look H b)) (size S κ) S.high S.low a q).run.each b l m))

-- It stays defined.
pub change_defined : {S : Setting} {H H' : Heap} → Change S H H' → (b : ℕ) (c : Cell) → look H b ≡ Some c
    → (c' : Cell) × (look H' b ≡ Some c')
change_defined {S} {H} {H'} k b c h = go (change_same k b c h)
  where
    go : (look H' b ≡ Some c) ⊎ ((d : Cell) × (H' ≡ update H b d)) → (c' : Cell) × (look H' b ≡ Some c')
    go (inl e) = (c, e)
    go (inr (d, e)) = let (l, m) = look_inside H b h in (d, rw e (look_same H b d l m))

-- The step's heap is as long as H.
abbrev pub Long : Heap → Step → Type 0
Long H = Every (λ m. Unit {0}) (λ H' e m. length H' ≡ length H)

pub step_long : (S : Setting) (H : Heap) (m : Mode) (e : Expr) → Long H (step S m H e)
step_long S H m e = every_map (λ H' e m c. change_length c) (step_changes S H m e)

-- The heap that a run leaves at its limit is the heap that it has there.
pub limit_heap : (H : Heap) (s : Step) → (at_limit H s).heap ≡ H
limit_heap H (done n κ) = refl
limit_heap H (stuck m) = refl
limit_heap H (halt h m) = refl
limit_heap H (next H' e m) = refl

-- A property of two heaps that each change has, and that two changes have where each has it, holds of a run's first and last heap.
module _ (S : Setting) (P : Heap → Heap → Type 0) (same : (H : Heap) → P H H) (then : (H H' H'' : Heap) → P H H' → P H' H'' → P H H'')
    (each : (H H' : Heap) → Change S H H' → P H H') where
  onward_changed : (H : Heap) {s : Step} (go : Heap → Expr → Result) → Changes S H s
      → ((H' : Heap) (e : Expr) → P H' (go H' e).heap) → P H (onward H s go).heap
  onward_changed H go every_value rest = same H
  onward_changed H go (every_stuck q) rest = same H
  onward_changed H go (every_halt q) rest = same H
  onward_changed H go (every_next {H = H'} {e = e} c) rest = then H H' _ (each H H' c) (rest H' e)

  pub run_changed : (limit : ℕ) (H : Heap) (e : Expr) → P H (run S limit H e).heap
  unfolding run
  run_changed zero H e = rw (limit_heap H (step S Checked H e)) (same H)
  run_changed (suc limit) H e = onward_changed H (run S limit) (step_changes S H Checked e) (run_changed limit)

-- The theorem: no run changes the heap's length.
pub same_length : (S : Setting) (limit : ℕ) (H : Heap) (e : Expr) → length (run S limit H e).heap ≡ length H
same_length S limit H e =
    run_changed S (λ H H'. length H' ≡ length H) (λ H. refl) (λ H H' H'' p q. q ∙ p) (λ H H' c. change_length c) limit H e

-- A word that is defined before a run is defined behind it.
pub stays_defined : (S : Setting) (limit : ℕ) (H : Heap) (e : Expr) (a : ℕ) (c : Cell) → look H a ≡ Some c
    → (c' : Cell) × (look (run S limit H e).heap a ≡ Some c')
stays_defined S limit H e a =
    run_changed S (λ H H'. (c : Cell) → look H a ≡ Some c → (c' : Cell) × (look H' a ≡ Some c')) (λ H c h. (c, h))
    (λ H H' H'' p q c h. let (c', h') = p c h in q c' h') (λ H H' k c h. change_defined k a c h) limit H e
