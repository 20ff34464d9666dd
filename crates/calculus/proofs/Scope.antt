-- The judgement of literals and its scope: a larger scope serves as well; a literal of the scope may be replaced by its own
-- derivation; so the words that a literal covers are well typed in the empty scope if it is. Then that whatever is reached from a
-- well-typed literal is well typed, and good.
use Rattle.std.specs.Prelude.{Some}
use mathlib.Core.Path.{◌≡◌}
use mathlib.Core.Logic.{⊎_elim}
use mathlib.Core.Bool.{Bool, true, false, not}
use mathlib.Core.List.Memᴰ
use mathlib.Core.List.{List, [], ◌∷◌, Memᴰ}
use Prim.Native.Nat.{ℕ, ◌+◌, ◌<◌}
use lib.Dec.{T, eqb}
use borrow.Author.Tests.{ne_eqb}
use Rattle.choice.specs.Choice.{either}
use Rattle.cells.specs.Heap.{Heap, look}
use Rattle.cells.specs.Lent.{value_in}
use Rattle.cells.specs.declared.Kind.{Kind}
use Rattle.cells.specs.declared.Cell.{Cell}
use Rattle.calculus.specs.Setting.{Setting, cell, size, word_kind, checked_pointer, checked_empty}
use Rattle.calculus.specs.Literal.{WellLit, t_base, t_vconst, t_ptrc, is_base}
use Rattle.calculus.specs.Reach.{Good, good_base, good_words, Covers, Reach, itself, further}
use Rattle.calculus.proofs.Same.{holds, refuted, holds_one}

-- A literal that is not base is a checked pointer.
pub base_pointer : (n : ℕ) (κ : Kind) → is_base n κ ≡ false → T (checked_pointer κ)
base_pointer n κ = go (checked_pointer κ) (either (checked_empty κ) (eqb n 0))
  where
    go : (s t : Bool) → either (not s) t ≡ false → T s
    go true t e = tt
    go false t e = refuted e tt

-- A checked pointer other than 0, and not to an array of 0, is not base.
pub not_base : (n : ℕ) (κ : Kind) → T (checked_pointer κ) → checked_empty κ ≡ false → (n ≡ 0 → ⊥) → is_base n κ ≡ false
not_base n κ p e z = rw (holds (checked_pointer κ) p, e, ne_eqb n 0 z)

-- A value of 0 is base.
pub zero_base : (κ : Kind) → T (is_base 0 κ)
zero_base κ =
    holds_one (not (checked_pointer κ)) (either (checked_empty κ) (eqb 0 0)) (λ _. holds_one (checked_empty κ) (eqb 0 0) (λ _. tt))

-- A larger scope is larger with one more literal in front of both.
more : {σ τ : List Cell} {d : Cell} → ((c : Cell) → Memᴰ c σ → Memᴰ c τ)
    → (c : Cell) → Memᴰ c (d ∷ σ) → Memᴰ c (d ∷ τ)
more sub c m = ⊎_elim (λ e. Memᴰ.head e) (λ r. Memᴰ.tail (sub c r)) (Memᴰ.cases_cons m)

-- the word at a is defined, has exactly the type ε, and is well typed in the empty scope
pub record Defined (S : Setting) (H : Heap) (a : ℕ) (ε : Kind) : Type 0 where
  pub word : ℕ
  pub there : look H a ≡ Some (cell word ε)
  pub well : WellLit S H [] word ε

-- so is the i-th word that a literal covers, with exactly the target's word type there
abbrev pub Covered : Setting → Heap → ℕ → Kind → ℕ → Type 0
Covered S H n κ i = Defined S H (n + i) (word_kind S κ i)

module _ {S : Setting} {H : Heap} where
  -- The paper's Lemma 1, weakening: what is well typed in a scope is so in a larger one.
  pub weaken : {σ τ : List Cell} {n : ℕ} {κ : Kind}
      → ((c : Cell) → Memᴰ c σ → Memᴰ c τ) → WellLit S H σ n κ → WellLit S H τ n κ
  weaken sub (t_base b) = t_base b
  weaken sub (t_vconst m) = t_vconst (sub _ m)
  weaken sub (t_ptrc v p there well) = t_ptrc v p there (λ i l. weaken (more sub) (well i l))

  -- With one more literal in front of both scopes, that literal stands for itself.
  cut_more : {σ τ : List Cell} {d : Cell} → ((c : Cell) → Memᴰ c σ → WellLit S H τ c.value c.kind)
      → (c : Cell) → Memᴰ c (d ∷ σ) → WellLit S H (d ∷ τ) c.value c.kind
  cut_more each c m =
      ⊎_elim (λ e. t_vconst (Memᴰ.head e)) (λ r. weaken (λ _. Memᴰ.tail) (each c r)) (Memᴰ.cases_cons m)

  -- The paper's Lemma 2, strengthening: a literal of the scope that is well typed without it is not needed there.
  pub cut : {σ τ : List Cell} {n : ℕ} {κ : Kind}
      → ((c : Cell) → Memᴰ c σ → WellLit S H τ c.value c.kind) → WellLit S H σ n κ → WellLit S H τ n κ
  cut each (t_base b) = t_base b
  cut each (t_vconst m) = each _ m
  cut each (t_ptrc v p there well) = t_ptrc v p there (λ i l. cut (cut_more each) (well i l))

  -- The words that a literal covers, if it is well typed in the empty scope and not base.
  pub opened : {n : ℕ} {κ : Kind} → WellLit S H [] n κ → is_base n κ ≡ false → (i : ℕ) → i < size S κ → Covered S H n κ i
  opened (t_base b) e i l = absurd (refuted e b)
  opened (t_vconst m) e i l = absurd (Memᴰ.not-nil m)
  opened (t_ptrc {n} {κ} v p there well) e i l =
      record {
        word = v i;
        there = there i l;
        well = cut (λ c m. let q : c ≡ cell n κ = Memᴰ.eq_of_singleton m in rw q (t_ptrc v p there well)) (well i l);
      }

  -- And back: a checked pointer is well typed if each word that it covers is so.
  pub covered_well : {n : ℕ} {κ : Kind} → T (checked_pointer κ) → ((i : ℕ) → i < size S κ → Covered S H n κ i) → WellLit S H [] n κ
  covered_well {n} {κ} p each =
      t_ptrc {σ = []} {n = n} {κ = κ} (λ i. value_in (look H (n + i))) p (λ i l. rw (each i l).there)
      (λ i l. rw (each i l).there (weaken (λ c m. absurd (Memᴰ.not-nil m)) (each i l).well))

  -- A literal that is well typed in the empty scope is good.
  pub well_good : {n : ℕ} {κ : Kind} → WellLit S H [] n κ → Good S H n κ
  well_good (t_base b) = good_base b
  well_good (t_vconst m) = absurd (Memᴰ.not-nil m)
  well_good (t_ptrc v p there well) = good_words v there

  -- A word that a well-typed literal covers is well typed.
  pub covers_well : {c d : Cell} → WellLit S H [] c.value c.kind → Covers S H c d → WellLit S H [] d.value d.kind
  covers_well {c} {d} w k =
      let o : Covered S H c.value c.kind k.at = opened w k.pointer k.at k.inside in
      let e : d ≡ cell o.word (word_kind S c.kind k.at) = cc (o.there, k.there) in
      rw e o.well

  -- Whatever is reached from a well-typed literal is well typed.
  pub reach_well : {c d : Cell} → Reach S H c d → WellLit S H [] c.value c.kind → WellLit S H [] d.value d.kind
  reach_well itself w = w
  reach_well (further r k) w = covers_well (reach_well r w) k
