-- Heaps that keep what is well typed: an assignment of a well-typed value of the word's own type, and malloc. And the pointers that
-- steps make: malloc's own, one to some of the words of another, a sum, a field's address; and what a read finds.
use Rattle.std.specs.Prelude.{Some}
use mathlib.Core.Path.{◌≡◌, refl, ◌∙◌, ap}
use mathlib.Core.Logic.{◌⊎◌, inl, inr, ⊎_elim}
use mathlib.Core.Bool.{Bool, true, false}
use mathlib.Core.List.{[]}
use Prim.Native.Nat.{ℕ, ◌+◌, ◌-◌, ◌^◌, ◌≤◌, ◌<◌}
use native.Mathlib.Decide.{ℕ_discrete, dec_lt}
use native.Mathlib.Nat.{zero-add, add-zero, add_assoc, mod-eq_of_lt}
use native.Mathlib.Omega.{arith}
use lib.Dec.{T}
use borrow.Author.Tests.{ne_eqb, eqb-false}
use lib.ListN.{length, get_or}
use Rattle.cells.specs.Heap.{Heap, look, update, undefined}
use Rattle.cells.specs.Lent.{value_in}
use Rattle.cells.specs.Free.{lowest_in}
use Rattle.cells.specs.declared.Mode.{Mode}
use Rattle.cells.specs.declared.Mode.TheVariants.{Checked, Unchecked}
use Rattle.cells.specs.declared.Kind.{Kind}
use Rattle.cells.specs.declared.Kind.TheVariants.{Word, Struct, Array}
use Rattle.cells.specs.declared.Cell.{Cell}
use Rattle.calculus.specs.Setting.{Setting, cell, fields_of, size, word_kind, checked_pointer, checked_empty}
use Rattle.calculus.specs.Expr.{Target, to_word, to_struct, to_array, pointer}
use Rattle.calculus.specs.Literal.{WellLit, t_base, is_base}
use Rattle.calculus.specs.Typing.{Element, of_word, of_array}
use Rattle.calculus.specs.Steps.{added, zeroed}
use Rattle.calculus.proofs.Same.{as_true, refuted}
use Rattle.calculus.specs.Reach.{Good, good_base, good_words, Covers}
use Rattle.calculus.proofs.Scope.{not_base, zero_base, Defined, Covered, opened, covered_well}
use Rattle.calculus.proofs.Literals.{closed_good}
use Rattle.cells.proofs.Free.{lowest}
use Rattle.cells.proofs.Heaps.{look_same, look_other}
use Rattle.calculus.proofs.Zeroed.{look_inside, zeroed_same, zeroed_other}

-- the word at a, which held v, is defined in H' with the same type; its value is as it was, or was well typed in H
pub record Stays (S : Setting) (H H' : Heap) (a v : ℕ) (κ : Kind) : Type 0 where
  pub value : ℕ
  pub there : look H' a ≡ Some (cell value κ)
  pub fine : (value ≡ v) ⊎ WellLit S H [] value κ

-- each defined word of H stays so in H'
pub record Kept (S : Setting) (H H' : Heap) : Type 0 where
  pub stays : (a v : ℕ) (κ : Kind) → look H a ≡ Some (cell v κ) → Stays S H H' a v κ

module _ {S : Setting} {H H' : Heap} (kept : Kept S H H') where
  -- A word that a well-typed literal covers has a value in H' that is well typed in H.
  kept_word : {n : ℕ} {κ : Kind} → WellLit S H [] n κ → is_base n κ ≡ false → (i : ℕ) → i < size S κ
      → (v : ℕ) × (look H' (n + i) ≡ Some (cell v (word_kind S κ i))) × WellLit S H [] v (word_kind S κ i)
  kept_word {n} {κ} w e i l =
      let o : Covered S H n κ i = opened w e i l in
      let s : Stays S H H' (n + i) o.word (word_kind S κ i) = kept.stays (n + i) o.word (word_kind S κ i) o.there in
      (s.value, s.there, ⊎_elim (λ q. rw q o.well) (λ v. v) s.fine)

  -- So a literal that is well typed in H is good in H'.
  kept_good : {n : ℕ} {κ : Kind} → WellLit S H [] n κ → Good S H' n κ
  kept_good {n} {κ} w = go (is_base n κ) refl
    where
      go : (t : Bool) → is_base n κ ≡ t → Good S H' n κ
      go true e = good_base (as_true e)
      go false e = good_words (λ i. value_in (look H' (n + i))) (λ i l. rw (kept_word w e i l).1)

  -- And what it covers in H' is well typed in H.
  kept_covers : (c d : Cell) → WellLit S H [] c.value c.kind → Covers S H' c d → WellLit S H [] d.value d.kind
  kept_covers c d w k =
      let (v, there, well) = kept_word w k.pointer k.at k.inside in
      let e : d ≡ cell v (word_kind S c.kind k.at) = cc (there, k.there) in
      rw e well

-- What is well typed in H is so in H': the paper's H ▷ H'.
pub kept_well : {S : Setting} {H H' : Heap} {n : ℕ} {κ : Kind} → Kept S H H' → WellLit S H [] n κ → WellLit S H' [] n κ
kept_well {S} {H} {H'} {n} {κ} k w =
    closed_good S H' (λ c. WellLit S H [] c.value c.kind) (λ c. kept_good k) (kept_covers k) (cell n κ) w

-- A heap keeps itself.
pub self_kept : (S : Setting) (H : Heap) → Kept S H H
self_kept S H = record { stays = λ a v κ h. record { value = v; there = h; fine = inl refl } }

-- Assigning a well-typed value of the word's own type keeps the heap.
pub assign_kept : {S : Setting} {H : Heap} (a : ℕ) {v k : ℕ} {κ : Kind}
    → look H a ≡ Some (cell v κ) → WellLit S H [] k κ → Kept S H (update H a (cell k κ))
assign_kept {S} {H} a {v} {k} {κ} h w = record { stays = λ b u κ' g. go b u κ' g (ℕ_discrete b a) }
  where
    go : (b u : ℕ) (κ' : Kind) → look H b ≡ Some (cell u κ') → Dec (b ≡ a) → Stays S H (update H a (cell k κ)) b u κ'
    go b u κ' g (yes e) =
        let d : cell u κ' ≡ cell v κ = cc in
        let q : κ' ≡ κ = ap (λ c. c.kind) d in
        let (l, m) = look_inside H a h in
        rw (e, q) (record { value = k; there = look_same H a (cell k κ) l m; fine = inr w })
    go b u κ' g (no n) = record { value = u; there = look_other H a b (cell k κ) n ∙ g; fine = inl refl }

-- Taking a run of undefined words keeps the heap.
pub malloc_kept : (S : Setting) (H : Heap) (κ : Kind) (k low high a i : ℕ)
    → lowest_in (λ b. undefined (look H b)) k low high ≡ Some a → Kept S H (zeroed S κ k a i H)
malloc_kept S H κ k low high a i e =
    record { stays = λ b v κ' h. record { value = v; there = zeroed_other S κ k a i H b (outside b h) ∙ h; fine = inl refl } }
  where
    outside : (b : ℕ) {c : Cell} → look H b ≡ Some c → a ≤ b → b < a + k → ⊥
    outside b h l m =
        let f : undefined (look H b) ≡ false = rw h in
        refuted f (as_true ((lowest (λ b. undefined (look H b)) k high low a e).run.each b l m))

-- The pointer that malloc makes is checked.
pub malloc_checked : (ω : Target) → T (checked_pointer (pointer Checked ω))
unfolding checked_pointer
malloc_checked (to_word n) = tt
malloc_checked (to_struct s) = tt
malloc_checked (to_array k n) = tt

-- The pointer to the words that malloc took is well typed.
pub malloc_well : (S : Setting) (H : Heap) (κ : Kind) (low high a : ℕ) → T (checked_pointer κ) → 0 < low → high ≤ length H
    → lowest_in (λ b. undefined (look H b)) (size S κ) low high ≡ Some a → WellLit S (zeroed S κ (size S κ) a 0 H) [] a κ
malloc_well S H κ low high a p l h e =
    let run = lowest (λ b. undefined (look H b)) (size S κ) high low a e in
    covered_well p
    (λ i m.
    record {
      word = 0;
      there = rw zero-add at (zeroed_same S κ (size S κ) a 0 H i m (omega arith) (omega arith));
      well = t_base (zero_base (word_kind S κ i));
    })

-- A checked pointer to some of the words of a well-typed literal that is not base is well typed.
pub part_well : {S : Setting} {H : Heap} {n : ℕ} {κ κ' : Kind} → WellLit S H [] n κ → is_base n κ ≡ false → T (checked_pointer κ')
    → (k : ℕ) → ((i : ℕ) → i < size S κ' → (k + i < size S κ) × (word_kind S κ (k + i) ≡ word_kind S κ' i))
    → WellLit S H [] (n + k) κ'
part_well w e p k fit = covered_well p (λ i l. let (m, q) = fit i l in rw (add_assoc, ← q) (opened w e (k + i) m))

-- Where the sum of an address and a number is the address of a defined word, it does not wrap.
pub added_inside : (S : Setting) (H : Heap) (n k : ℕ) {c : Cell} → length H < 2 ^ S.width → look H (n + k) ≡ Some c
    → added S n k ≡ n + k
added_inside S H n k b h = mod-eq_of_lt (omega (arith, look_inside H (n + k) h))

-- The sum of a checked array pointer other than 0 and a number is well typed, with the count fallen.
pub sum_well : {S : Setting} {H : Heap} {n c t : ℕ} → length H < 2 ^ S.width
    → WellLit S H [] n (Array Checked c t) → (n ≡ 0 → ⊥) → (k : ℕ) → WellLit S H [] (added S n k) (Array Checked (c - k) t)
unfolding checked_pointer checked_empty size word_kind
sum_well {S} {H} {n} {c} {t} b w z k = go (dec_lt k c)
  where
    go : Dec (k < c) → WellLit S H [] (added S n k) (Array Checked (c - k) t)
    go (yes l) =
        let e : is_base n (Array Checked c t) ≡ false = not_base n (Array Checked c t) tt (ne_eqb c 0 (omega arith)) z in
        let o : Covered S H n (Array Checked c t) k = opened w e k l in
        rw (added_inside S H n k b o.there) (part_well w e tt k (λ i m. (omega arith, refl)))
    go (no l) = let e : c - k ≡ 0 = omega arith in rw e (t_base tt)

-- The address of a field is well typed.
pub field_well : {S : Setting} {H : Heap} {n s f : ℕ} {m : Mode} → length H < 2 ^ S.width
    → WellLit S H [] n (Struct m s) → f < length (fields_of S s) → (m ≡ Checked → n ≡ 0 → ⊥)
    → WellLit S H [] (added S n f) (Word m (get_or (fields_of S s) f 0))
unfolding checked_pointer checked_empty size word_kind
field_well {m = Unchecked} b w l z = t_base tt
field_well {S} {H} {n} {s} {f} {m = Checked} b w l z =
    let e : is_base n (Struct Checked s) ≡ false = not_base n (Struct Checked s) tt refl (z refl) in
    let o : Covered S H n (Struct Checked s) f = opened w e f l in
    rw (added_inside S H n f b o.there)
    (part_well w e tt f (λ i m. let q : f + i ≡ f = omega arith in (omega arith, rw q)))

-- The first word that a well-typed literal covers, if it is not base.
pub first_word : {S : Setting} {H : Heap} {n : ℕ} {κ : Kind} → WellLit S H [] n κ → is_base n κ ≡ false → 0 < size S κ
    → Defined S H n (word_kind S κ 0)
first_word w e l = rw add-zero at (opened w e 0 l)

-- An access through a well-typed checked pointer, other than 0 and not to an array of 0, finds a well-typed word of the element
-- type.
pub defined_word : {S : Setting} {H : Heap} {n : ℕ} {κ ε : Kind} → WellLit S H [] n κ → Element S κ Checked ε → (n ≡ 0 → ⊥)
    → checked_empty κ ≡ false → Defined S H n ε
unfolding checked_pointer checked_empty size word_kind
defined_word {n} w (of_word {n = t}) z f = first_word w (not_base n (Word Checked t) tt refl z) (omega arith)
defined_word {n} w (of_array {k} {n = t}) z f =
    first_word w (not_base n (Array Checked k t) tt f z) (omega (arith, eqb-false k 0 f))
