-- The test of literals decides the judgement. What passes is well typed. And a literal passes if it is of a set of good literals
-- that holds every word that one of them covers: each literal that the test puts into the scope behind the first is another word of
-- the heap, so the number of words whose cells are not in the scope yet bounds the depth. Hence the literals of such a set are well
-- typed, and a literal is well typed exactly if all that is reached from it is good.
use Rattle.std.specs.Prelude.{Option, Some, None}
use mathlib.Core.Path.{◌≡◌, refl}
use mathlib.Core.Logic.{⊎_elim, ◌↔◌}
use mathlib.Core.Bool.{Bool, true, false}
use mathlib.Core.List.Memᴰ
use mathlib.Core.List.{List, [], ◌∷◌}
use Prim.Native.Nat.{ℕ, zero, suc, ◌+◌, ◌≤◌, ◌<◌}
use native.Mathlib.Omega.{arith}
use lib.Dec.{T}
use lib.ListN.{length}
use Rattle.choice.specs.Choice.{choose, choose_case, either, all_from}
use Rattle.cells.specs.Heap.{Heap, look}
use Rattle.cells.specs.Lent.{value_in}
use Rattle.cells.specs.Same.{same_kind, same_cell}
use Rattle.cells.specs.declared.Kind.{Kind}
use Rattle.cells.specs.declared.Cell.{Cell}
use Rattle.calculus.specs.Setting.{Setting, cell, size, word_kind}
use Rattle.calculus.specs.Literal.{WellLit, t_base, t_vconst, t_ptrc, is_base, in_scope, holds_well, well_lit, literal_well}
use Rattle.calculus.proofs.Same.{holds, refuted, both_holds, holds_both, one_holds, holds_one, neither, same_kind_lem, kind_same, not_held, in_scope_lem, scope_in, each_below, below_each}
use Rattle.calculus.specs.Reach.{Good, good_base, good_words, Covers, Reach, itself, further}
use Rattle.calculus.proofs.Scope.{base_pointer, well_good, covers_well, reach_well}

-- A word that passes holds its value with that kind, and the value passes.
holds_well_lem : (w : Option Cell) (κ : Kind) (well : ℕ → Kind → Bool) → T (holds_well w κ well)
    → (w ≡ Some (cell (value_in w) κ)) × T (well (value_in w) κ)
holds_well_lem None κ well h = absurd h
holds_well_lem (Some c) κ well h =
    let (s, t) = both_holds (same_kind c.kind κ) (well c.value κ) h in
    let e : c.kind ≡ κ = same_kind_lem c.kind κ s in
    (λ i. Some (record { value = c.value; kind = e i }), t)

module _ (S : Setting) (H : Heap) where
  -- T-PtrC's test: each word that the literal covers passes, one deeper
  abbrev words_test : (deep : ℕ) → List Cell → ℕ → Kind → Bool
  words_test deep σ n κ = all_from (λ i. holds_well (look H (n + i)) (word_kind S κ i) (well_lit S H deep (cell n κ ∷ σ))) (size S κ) 0

  -- What passes as base or in the scope is well typed.
  base_or_scope : (σ : List Cell) (n : ℕ) (κ : Kind) → T (either (is_base n κ) (in_scope (cell n κ) σ)) → WellLit S H σ n κ
  base_or_scope σ n κ h =
      ⊎_elim (λ b. t_base b) (λ m. t_vconst (in_scope_lem (cell n κ) σ m.1)) (one_holds (is_base n κ) (in_scope (cell n κ) σ) h)

  -- A literal that is not base and whose words pass is well typed, if what passes one deeper is.
  words_well : (deep : ℕ) (σ : List Cell) (n : ℕ) (κ : Kind) → is_base n κ ≡ false
      → ((v : ℕ) (κ' : Kind) → T (well_lit S H deep (cell n κ ∷ σ) v κ') → WellLit S H (cell n κ ∷ σ) v κ')
      → T (words_test deep σ n κ) → WellLit S H σ n κ
  words_well deep σ n κ e well h =
      t_ptrc (λ i. value_in (look H (n + i))) (base_pointer n κ e) (λ i l. (passed i l).0) (λ i l. well _ _ (passed i l).1)
    where
      passed : (i : ℕ) → i < size S κ
          → (look H (n + i) ≡ Some (cell (value_in (look H (n + i))) (word_kind S κ i)))
          × T (well_lit S H deep (cell n κ ∷ σ) (value_in (look H (n + i))) (word_kind S κ i))
      passed i l = holds_well_lem (look H (n + i)) (word_kind S κ i) (well_lit S H deep (cell n κ ∷ σ)) (each_below _ (size S κ) h i l)

  -- What passes the test, however deep, is well typed.
  pub test_well : (deep : ℕ) (σ : List Cell) (n : ℕ) (κ : Kind) → T (well_lit S H deep σ n κ) → WellLit S H σ n κ
  unfolding well_lit
  test_well zero σ n κ h = base_or_scope σ n κ h
  test_well (suc deep) σ n κ h =
      ⊎_elim (base_or_scope σ n κ)
      (λ w. words_well deep σ n κ (neither _ _ w.0).0 (test_well deep (cell n κ ∷ σ)) w.1)
      (one_holds (either (is_base n κ) (in_scope (cell n κ) σ)) (words_test deep σ n κ) h)

  -- A good literal passes one deeper than all the words that it covers with it in the scope.
  test_words : (deep : ℕ) (σ : List Cell) (n : ℕ) (κ : Kind) → Good S H n κ
      → ((d : Cell) → in_scope (cell n κ) σ ≡ false → Covers S H (cell n κ) d
      → T (well_lit S H deep (cell n κ ∷ σ) d.value d.kind))
      → T (well_lit S H (suc deep) σ n κ)
  unfolding well_lit
  test_words deep σ n κ g each =
      holds_one (either (is_base n κ) (in_scope (cell n κ) σ)) (words_test deep σ n κ)
      (λ e. let (p, q) = neither (is_base n κ) (in_scope (cell n κ) σ) e in go p q g)
    where
      go : is_base n κ ≡ false → in_scope (cell n κ) σ ≡ false → Good S H n κ → T (words_test deep σ n κ)
      go e f (good_base b) = absurd (refuted e b)
      go e f (good_words v there) =
          below_each _ (size S κ)
          (λ i l. rw (there i l)
          (holds_both (same_kind (word_kind S κ i) (word_kind S κ i)) _ (kind_same (word_kind S κ i))
          (each (cell (v i) (word_kind S κ i)) f (record { at = i; pointer = e; inside = l; there = there i l }))))

-- one for a word whose cell is not in the scope
pub fresh_word : List Cell → Option Cell → ℕ
fresh_word σ None = 0
fresh_word σ (Some c) = choose (in_scope c σ) (λ _. 0) (λ _. 1)

-- how many words of a heap have a cell that is not in the scope
pub fresh : List Cell → Heap → ℕ
fresh σ [] = 0
fresh σ (w ∷ H) = fresh_word σ w + fresh σ H

-- A word counts once at most.
pub fresh_word_lem : (σ : List Cell) (w : Option Cell) → fresh_word σ w ≤ 1
unfolding fresh_word
fresh_word_lem σ None = omega arith
fresh_word_lem σ (Some c) = choose_case (λ n. n ≤ 1) (in_scope c σ) (λ _. 0) (λ _. 1) (omega arith) (omega arith)

-- They are at most all words.
pub fresh_all : (σ : List Cell) (H : Heap) → fresh σ H ≤ length H
unfolding fresh
fresh_all σ [] = omega arith
fresh_all σ (w ∷ H) = omega (arith, fresh_word_lem σ w, fresh_all σ H)

module _ (c : Cell) (σ : List Cell) where
  -- One more literal in the scope makes no word count that did not.
  less_word : (w : Option Cell) → fresh_word (c ∷ σ) w ≤ fresh_word σ w
  unfolding fresh_word in_scope
  less_word None = omega arith
  less_word (Some d) = go (same_cell d c) (in_scope d σ)
    where
      go : (s t : Bool) → choose (either s t) (λ _. 0) (λ _. 1) ≤ choose {A = ℕ} t (λ _. 0) (λ _. 1)
      go true t = omega arith
      go false t = omega arith

  -- So the number does not grow with the scope.
  pub fresh_less : (H : Heap) → fresh (c ∷ σ) H ≤ fresh σ H
  unfolding fresh
  fresh_less [] = omega arith
  fresh_less (w ∷ H) = omega (arith, less_word w, fresh_less H)

  -- The word that holds the literal itself counts no more.
  falls_word : (w : Option Cell) → in_scope c σ ≡ false → w ≡ Some c → fresh_word (c ∷ σ) w < fresh_word σ w
  unfolding fresh_word
  falls_word w e h =
      let f : in_scope c (c ∷ σ) ≡ true = holds (in_scope c (c ∷ σ)) (scope_in c (c ∷ σ) (Memᴰ.head refl)) in
      rw (h, e, f) (omega arith)

  -- So the number falls if the literal is a word of the heap and was not in the scope.
  pub fresh_falls : (H : Heap) (a : ℕ) → in_scope c σ ≡ false → look H a ≡ Some c → fresh (c ∷ σ) H < fresh σ H
  unfolding fresh look
  fresh_falls H zero e h = absurd (not_held h)
  fresh_falls [] (suc i) e h = absurd (not_held h)
  fresh_falls (w ∷ H) (suc zero) e h = omega (arith, falls_word w e h, fresh_less H)
  fresh_falls (w ∷ H) (suc (suc i)) e h = omega (arith, less_word w, fresh_falls H (suc i) e h)

-- Of a set P of literals, each of them good, that holds every word that one of them covers.
module _ (S : Setting) (H : Heap) (P : Cell → Type 0)
    (good : (c : Cell) → P c → Good S H c.value c.kind) (closed : (c d : Cell) → P c → Covers S H c d → P d) where
  -- A literal of the set that is a word of the heap passes at the depth of the words not in the scope.
  fresh_test : (deep : ℕ) (σ : List Cell) (c : Cell) (a : ℕ) → P c → look H a ≡ Some c → fresh σ H ≤ deep
      → T (well_lit S H deep σ c.value c.kind)
  unfolding well_lit
  fresh_test zero σ c a p h l =
      holds_one (is_base c.value c.kind) (in_scope c σ) (λ e. go (in_scope c σ) refl)
    where
      go : (t : Bool) → in_scope c σ ≡ t → T t
      go true f = tt
      go false f = absurd (omega (arith, fresh_falls c σ H a f h))
  fresh_test (suc deep) σ c a p h l =
      test_words S H deep σ c.value c.kind (good c p)
      (λ d f k. fresh_test deep (c ∷ σ) d (c.value + k.at) (closed c d p k) k.there (omega (arith, fresh_falls c σ H a f h)))

  -- A literal of the set passes the test.
  pub closed_test : (c : Cell) → P c → T (literal_well S H c.value c.kind)
  closed_test c p =
      test_words S H (length H) [] c.value c.kind (good c p)
      (λ d f k. fresh_test (length H) (c ∷ []) d (c.value + k.at) (closed c d p k) k.there (fresh_all (c ∷ []) H))

  -- A literal of the set is well typed.
  pub closed_good : (c : Cell) → P c → WellLit S H [] c.value c.kind
  closed_good c p = test_well S H (suc (length H)) [] c.value c.kind (closed_test c p)

-- The test decides the judgement.
pub literal_test : (S : Setting) (H : Heap) (n : ℕ) (κ : Kind)
    → (T (literal_well S H n κ) → WellLit S H [] n κ) × (WellLit S H [] n κ → T (literal_well S H n κ))
literal_test S H n κ = (
  test_well S H (suc (length H)) [] n κ,
  closed_test S H (λ c. WellLit S H [] c.value c.kind) (λ c w. well_good w) (λ c d w k. covers_well w k) (cell n κ),
)

-- A literal is well typed exactly if every literal reached from it is base or covers defined words of exactly the right types.
pub well_reached : (S : Setting) (H : Heap) (n : ℕ) (κ : Kind)
    → WellLit S H [] n κ ↔ ((c : Cell) → Reach S H (cell n κ) c → Good S H c.value c.kind)
well_reached S H n κ = (
  λ w c r. well_good (reach_well r w),
  λ g. closed_good S H (Reach S H (cell n κ)) g (λ c d r k. further r k) (cell n κ) itself,
)
