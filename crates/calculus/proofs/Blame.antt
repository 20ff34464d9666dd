-- Progress and preservation, in one induction: what a well-typed expression does next. It is a value of its type; or it halts; or it
-- steps in checked code to an expression of its type over a heap that keeps every type; or it steps, or is stuck, in unchecked code.
use Rattle.std.specs.Prelude.{Option, Some, None}
use Prim.Native.Nat.{ℕ, ◌-◌, ◌<◌, ◌^◌}
use mathlib.Core.Path.{◌≡◌, refl}
use mathlib.Core.Bool.{Bool, true, false, not}
use mathlib.Core.List.{List, []}
use native.Mathlib.Omega.{arith}
use borrow.Author.Tests.{lt-ltb, ne_eqb, eqb-false}
use lib.Dec.{T, eqb}
use lib.ListN.{length, get_or}
use Rattle.choice.specs.Choice.{choose, both}
use Rattle.cells.specs.Heap.{Heap, look, update, undefined}
use Rattle.cells.specs.Free.{lowest_in}
use Rattle.cells.specs.declared.Mode.{Mode}
use Rattle.cells.specs.declared.Mode.TheVariants.{Checked, Unchecked}
use Rattle.cells.specs.declared.Kind.{Kind}
use Rattle.cells.specs.declared.Kind.TheVariants.{Int, Word, Struct, Array}
use Rattle.cells.specs.declared.Cell.{Cell}
use Rattle.calculus.specs.Setting.{Setting, cell, kind_of, fields_of, size, is_checked, checked_pointer, checked_empty}
use Rattle.calculus.specs.Expr.{Expr, lit, bind, one, two, unchecked, cast, read, field, act, Target, pointer}
use Rattle.calculus.specs.declared.Act.{Act}
use Rattle.calculus.specs.declared.Act.TheVariants.{Sum}
use Rattle.calculus.specs.Literal.{WellLit, t_base}
use Rattle.calculus.specs.Typing.{Role, whole, access, act_role, follows, castable, Element, of_word, of_array, ActTyped, act_assign, act_sum, Typed, t_var, t_lit, t_let, t_malloc, t_unchecked, t_cast, t_field, t_act, t_read, t_pointer, t_index}
use Rattle.calculus.specs.Steps.{Step, done, stuck, halt, next, step, frame, Redex, blocked, halts, gives, redex_step, defined_then, word_then, sum_redex, field_redex, taken_from, malloc_redex, one_redex, act_redex, added}
use Rattle.calculus.specs.GoodEnd.{Sized}
use Rattle.calculus.specs.declared.Halt.{Halt}
use Rattle.calculus.specs.declared.Halt.TheVariants.{Null, Bounds}
use Rattle.calculus.proofs.Same.{holds_one, refuted}
use Rattle.calculus.proofs.Scope.{Defined}
use Rattle.calculus.proofs.Growth.{Kept, kept_well, self_kept, assign_kept, malloc_kept, malloc_checked, malloc_well, sum_well, field_well, defined_word}
use Rattle.calculus.proofs.Substitution.{replacement}

-- Over a heap that keeps every type, an expression keeps its type.
pub typed_kept : {S : Setting} {H H' : Heap} {r : Role} {Γ : List Kind} {m : Mode} {e : Expr} {κ : Kind}
    → Kept S H H' → Typed S H r Γ m e κ → Typed S H' r Γ m e κ
typed_kept k (t_var b) = t_var b
typed_kept k (t_lit w) = t_lit (kept_well k w)
typed_kept k (t_let a b) = t_let (typed_kept k a) (typed_kept k b)
typed_kept k (t_malloc l) = t_malloc l
typed_kept k (t_unchecked e) = t_unchecked (typed_kept k e)
typed_kept k (t_cast t e) = t_cast t (typed_kept k e)
typed_kept k (t_field e l) = t_field (typed_kept k e) l
typed_kept k (t_act a b t) = t_act (typed_kept k a) (typed_kept k b) t
typed_kept k (t_read e) = t_read (typed_kept k e)
typed_kept k (t_pointer e el f) = t_pointer (typed_kept k e) el f
typed_kept k (t_index a b f) = t_index (typed_kept k a) (typed_kept k b) f

-- What an expression does next that has type κ in the role r, in code of mode m over the heap H.
pub data Fine (S : Setting) (H : Heap) (r : Role) (m : Mode) (κ : Kind) : Step → Type 0 where
  is_value : {n : ℕ} {κ' : Kind} → Typed S H r [] m (lit n κ') κ → Fine S H r m κ (done n κ')
  is_stuck : Fine S H r m κ (stuck Unchecked)
  is_halt : {h : Halt} {m' : Mode} → Fine S H r m κ (halt h m')
  is_unchecked : {H' : Heap} {e : Expr} → Fine S H r m κ (next H' e Unchecked)
  is_typed : {H' : Heap} {e : Expr} {m' : Mode} → Kept S H H' → Typed S H' r [] m e κ → Fine S H r m κ (next H' e m')

-- What a redex does in checked code.
data Safe (S : Setting) (H : Heap) (r : Role) (κ : Kind) : Redex → Type 0 where
  safe_halt : {h : Halt} → Safe S H r κ (halts h)
  safe_value : {H' : Heap} {n : ℕ} {κ' : Kind}
      → Kept S H H' → Typed S H' r [] Checked (lit n κ') κ → Safe S H r κ (gives H' n κ')

module _ {S : Setting} {H : Heap} {r : Role} {κ : Kind} where
  -- In unchecked code a redex may do anything.
  redex_fine : (m : Mode) (x : Redex) → (m ≡ Checked → Safe S H r κ x) → Fine S H r m κ (redex_step m x)
  redex_fine Checked x safe = go x (safe refl)
    where
      go : (x : Redex) → Safe S H r κ x → Fine S H r Checked κ (redex_step Checked x)
      go blocked s = elim s [ ]
      go (halts h) safe_halt = is_halt
      go (gives H' n κ') (safe_value k d) = is_typed k d
  redex_fine Unchecked blocked safe = is_stuck
  redex_fine Unchecked (halts h) safe = is_halt
  redex_fine Unchecked (gives H' n κ') safe = is_unchecked

  -- A node does as the part that steps does, if it keeps its type where the part keeps its own.
  frame_fine : {r' : Role} {m m' : Mode} {κ' : Kind} (around : Expr → Expr) (go : ℕ → Kind → Step) {s : Step}
      → Fine S H r' m' κ' s
      → ((H' : Heap) → Kept S H H' → (e : Expr) → Typed S H' r' [] m' e κ' → Typed S H' r [] m (around e) κ)
      → ((n : ℕ) (κ'' : Kind) → Typed S H r' [] m' (lit n κ'') κ' → Fine S H r m κ (go n κ''))
      → Fine S H r m κ (frame around s go)
  frame_fine around go (is_value d) under rest = rest _ _ d
  frame_fine around go is_stuck under rest = is_stuck
  frame_fine around go is_halt under rest = is_halt
  frame_fine around go is_unchecked under rest = is_unchecked
  frame_fine around go (is_typed k d) under rest = is_typed k (under _ k _ d)

  -- The same for a part that is no access's pointer: where it is a value, it has its type and is well typed.
  frame_whole : {m m' : Mode} {κ' : Kind} (around : Expr → Expr) (go : ℕ → Kind → Step) {s : Step}
      → Fine S H whole m' κ' s
      → ((H' : Heap) → Kept S H H' → (e : Expr) → Typed S H' whole [] m' e κ' → Typed S H' r [] m (around e) κ)
      → ((n : ℕ) → WellLit S H [] n κ' → Fine S H r m κ (go n κ'))
      → Fine S H r m κ (frame around s go)
  frame_whole {m} {m'} {κ'} around go f under rest = frame_fine around go f under value
    where
      value : (n : ℕ) (κ'' : Kind) → Typed S H whole [] m' (lit n κ'') κ' → Fine S H r m κ (go n κ'')
      value n κ'' (t_lit w) = rest n w

-- The pointer of a checked access is a checked pointer.
element_checked : {S : Setting} {κ ε : Kind} → Element S κ Checked ε → checked_pointer κ ≡ true
unfolding checked_pointer
element_checked of_word = refl
element_checked of_array = refl

module _ {S : Setting} {H : Heap} where
  -- The pointer of an access does as it does as a whole.
  pointer_fine : {m m' : Mode} {κ ε : Kind} {s : Step}
      → Element S κ m' ε → T (follows m m') → Fine S H whole m κ s → Fine S H access m ε s
  pointer_fine el f (is_value d) = is_value (t_pointer d el f)
  pointer_fine el f is_stuck = is_stuck
  pointer_fine el f is_halt = is_halt
  pointer_fine el f is_unchecked = is_unchecked
  pointer_fine el f (is_typed k d) = is_typed k (t_pointer d el f)

  -- A value of a type, over a heap that is as it was.
  same_heap : {n : ℕ} {κ : Kind} → WellLit S H [] n κ → Safe S H whole κ (gives H n κ)
  same_heap w = safe_value (self_kept S H) (t_lit w)

  -- In checked code an access is through a well-typed checked pointer.
  checked_access : {n : ℕ} {κ ε : Kind} → Typed S H access [] Checked (lit n κ) ε → WellLit S H [] n κ × Element S κ Checked ε
  checked_access (t_pointer {m' = Checked} (t_lit w) el f) = (w, el)
  checked_access (t_pointer {m' = Unchecked} d el f) = absurd f

  -- Read and assign: what is not a halt finds a well-typed word of the element's type.
  word_safe : {r : Role} {ε κ' : Kind} (n : ℕ) (κ : Kind) (go : Cell → Redex) → Typed S H access [] Checked (lit n κ) ε
      → ((v : ℕ) → look H n ≡ Some (cell v ε) → WellLit S H [] v ε → Safe S H r κ' (go (cell v ε)))
      → Safe S H r κ' (word_then H n κ go)
  unfolding word_then
  word_safe {r} {ε} {κ'} n κ go d rest =
      let (w, el) = checked_access d in rw (element_checked el) (null_test w el (eqb n 0) refl (checked_empty κ) refl)
    where
      null_test : WellLit S H [] n κ → Element S κ Checked ε → (t : Bool) → eqb n 0 ≡ t → (u : Bool) → checked_empty κ ≡ u
          → Safe S H r κ' (choose (both true t) (λ _. halts Null) λ _. choose u (λ _. halts Bounds) (λ _. defined_then (look H n) go))
      null_test w el true q u p = safe_halt
      null_test w el false q true p = safe_halt
      null_test w el false q false p =
          let found : Defined S H n ε = defined_word w el (eqb-false n 0 q) p in
          rw found.there (rest found.word found.there found.well)

  -- The sum of two ints.
  int_safe : (n k : ℕ) → Safe S H whole Int (sum_redex S H n Int k)
  unfolding sum_redex checked_pointer
  int_safe n k = same_heap (t_base tt)

  -- The sum under an access: the count falls, and the element's type stays.
  index_safe : {c t : ℕ} (m : Mode) (n k : ℕ) → length H < 2 ^ S.width → T (follows Checked m)
      → WellLit S H [] n (Array m c t) → Safe S H access (kind_of S t) (sum_redex S H n (Array m c t) k)
  unfolding sum_redex
  index_safe {c} {t} Checked n k wide f w = go (eqb n 0) refl
    where
      go : (z : Bool) → eqb n 0 ≡ z
          → Safe S H access (kind_of S t) (choose (both true z) (λ _. halts Null) (λ _. gives H (added S n k) (Array Checked (c - k) t)))
      go true q = safe_halt
      go false q = safe_value (self_kept S H) (t_pointer (t_lit (sum_well wide w (eqb-false n 0 q) k)) of_array tt)
  index_safe Unchecked n k wide f w = absurd f

  -- A field's address.
  field_safe : {s f : ℕ} (m : Mode) (n : ℕ) → length H < 2 ^ S.width → f < length (fields_of S s) → WellLit S H [] n (Struct m s)
      → Safe S H whole (Word m (get_or (fields_of S s) f 0)) (field_redex S H f n (Struct m s))
  unfolding field_redex
  field_safe {s} {f} m n wide l w = rw (lt-ltb f (length (fields_of S s)) l) (go (both (is_checked m) (eqb n 0)) refl)
    where
      κ : Kind
      κ = Word m (get_or (fields_of S s) f 0)

      go : (z : Bool) → both (is_checked m) (eqb n 0) ≡ z
          → Safe S H whole κ (choose z (λ _. halts Null) (λ _. gives H (added S n f) κ))
      go true q = safe_halt
      go false q = same_heap (field_well wide w l (λ c. eqb-false n 0 (rw c at q)))

  -- malloc of more than 0 words.
  malloc_safe : (ω : Target) → Sized S H → 0 < size S (pointer Checked ω)
      → Safe S H whole (pointer Checked ω) (malloc_redex S H (pointer Checked ω))
  unfolding malloc_redex
  malloc_safe ω sized l =
      rw (ne_eqb (size S κ) 0 (omega arith)) (go (lowest_in (λ a. undefined (look H a)) (size S κ) S.low S.high) refl)
    where
      κ : Kind
      κ = pointer Checked ω

      go : (x : Option ℕ) → lowest_in (λ a. undefined (look H a)) (size S κ) S.low S.high ≡ x → Safe S H whole κ (taken_from S H κ x)
      go (Some a) q =
          safe_value (malloc_kept S H κ (size S κ) S.low S.high a 0 q)
          (t_lit (malloc_well S H κ S.low S.high a (malloc_checked ω) sized.above sized.within q))
      go None q = safe_halt

  -- A cast in checked code.
  cast_safe : {m : Mode} {κ : Kind} (n : ℕ) → T (castable m κ) → m ≡ Checked → Safe S H whole κ (gives H n κ)
  cast_safe {κ} n t c = same_heap (t_base (holds_one (not (checked_pointer κ)) _ (λ q. absurd (refuted q (rw c at t)))))

  -- An assignment.
  assign_safe : {v k : ℕ} {κ : Kind} (n : ℕ) → look H n ≡ Some (cell v κ) → WellLit S H [] k κ
      → Safe S H whole κ (gives (update H n (cell k κ)) k κ)
  assign_safe n there w = let k = assign_kept n there w in safe_value k (t_lit (kept_well k w))

  -- What is done with two values, the first judged in the operation's role.
  act_safe : {o : Act} {κ κ₁ κ₂ κ₃ : Kind} (n k : ℕ) → ActTyped o κ₁ κ₂ κ₃ → Typed S H (act_role o) [] Checked (lit n κ) κ₁
      → WellLit S H [] k κ₂ → Safe S H whole κ₃ (act_redex S H o n κ k κ₂)
  act_safe {κ} n k act_assign d w = word_safe n κ _ d (λ v there w'. assign_safe n there w)
  act_safe n k act_sum (t_lit w') w = int_safe n k

-- The theorem: a well-typed closed expression is fine, in either role and mode.
pub blame : {S : Setting} {H : Heap} {r : Role} {m : Mode} {e : Expr} {κ : Kind}
    → Sized S H → Typed S H r [] m e κ → Fine S H r m κ (step S m H e)
unfolding step
blame sized (t_var v) = elim v [ ]
blame sized (t_lit w) = is_value (t_lit w)
blame sized (t_malloc {m} {ω} l) = redex_fine m _ (λ c. malloc_safe ω sized l)
blame {S} {H} sized (t_let {b} da db) =
    frame_whole (λ a. bind a b) _ (blame sized da) (λ H' k e d. t_let d (typed_kept k db))
    (λ n w. is_typed (self_kept S H) (replacement w [] [] db))
blame sized (t_unchecked {m} d) =
    frame_whole (one unchecked) _ (blame sized d) (λ H' k e d. t_unchecked d) (λ n w. redex_fine m _ (λ c. same_heap w))
blame sized (t_cast {m} {κ} t d) =
    frame_whole (one (cast κ)) _ (blame sized d) (λ H' k e d. t_cast t d) (λ n w. redex_fine m _ (λ c. cast_safe n t c))
blame sized (t_field {m} {m'} {i} d l) =
    frame_whole (one (field i)) _ (blame sized d) (λ H' k e d. t_field d l)
    (λ n w. redex_fine m _ (λ c. field_safe m' n sized.wide l w))
blame {S} {H} sized (t_act {m} {o} {b} {κ'} da db t) =
    frame_fine (λ a. two (act o) a b) _ (blame sized da) (λ H' k e d. t_act d (typed_kept k db) t) λ n κ d.
    frame_whole (two (act o) (lit n κ)) _ (blame sized db) (λ H' k e d'. t_act (typed_kept k d) d' t)
    (λ v w. redex_fine m (act_redex S H o n κ v κ') (λ c. act_safe n v t (rw c at d) w))
blame {S} {H} sized (t_read {m} d) =
    frame_fine (one read) _ (blame sized d) (λ H' k e d. t_read d)
    (λ n κ d. redex_fine m (one_redex S H read n κ) (λ c. word_safe n κ _ (rw c at d) (λ v there w. same_heap w)))
blame sized (t_pointer d el f) = pointer_fine el f (blame sized d)
blame sized (t_index {m} {m'} {b} {k = c} {n = t} da db f) =
    frame_whole (λ a. two (act Sum) a b) _ (blame sized da) (λ H' k e d. t_index d (typed_kept k db) f) λ n w.
    frame_whole (two (act Sum) (lit n (Array m' c t))) _ (blame sized db) (λ H' k e d. t_index (t_lit (kept_well k w)) d f)
    (λ k w'. redex_fine m _ (λ c. index_safe m' n k sized.wide (rw c at f) w))
