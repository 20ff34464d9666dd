-- "A literal has its annotated type." When it is well typed over a heap, as the paper's rules have it, and as a test.
use Rattle.std.specs.Prelude.{ℕ, zero, suc, ◌+◌, ◌<◌, ◌≡◌, Bool, true, false, not, T, eqb, length, Option, Some, None}
use mathlib.Core.List.{List, [], ◌∷◌, Memᴰ}
use Rattle.choice.specs.Choice.{choose, both, either, all_from}
use Rattle.cells.specs.Heap.{Heap, look}
use Rattle.cells.specs.Same.{same_kind, same_cell}
use Rattle.cells.specs.declared.Kind.{Kind}
use Rattle.cells.specs.declared.Cell.{Cell}
use Rattle.calculus.specs.Setting.{Setting, cell, size, word_kind, checked_pointer, checked_empty}

-- "that is int, an unchecked pointer, a checked pointer to an array of 0, or the value is 0"
abbrev pub is_base : ℕ → Kind → Bool
is_base n κ = either (not (checked_pointer κ)) (either (checked_empty κ) (eqb n 0))

-- The judgement: over heap H, in the scope σ, the literal n of type κ is well typed.
pub data WellLit (S : Setting) (H : Heap) : List Cell → ℕ → Kind → Type 0 where
  -- T-Base
  t_base : {σ : List Cell} {n : ℕ} {κ : Kind} → T (is_base n κ) → WellLit S H σ n κ
  -- T-VConst: "or if it is in the scope"
  t_vconst : {σ : List Cell} {n : ℕ} {κ : Kind} → Memᴰ (cell n κ) σ → WellLit S H σ n κ
  -- T-PtrC: "or if it is a checked pointer and each word that its target covers is defined, has exactly the target's word type there,
  -- and is itself well typed with this literal added to the scope"; v i is the i-th such word's value
  t_ptrc : {σ : List Cell} {n : ℕ} {κ : Kind} (v : ℕ → ℕ) → T (checked_pointer κ)
      → ((i : ℕ) → i < size S κ → look H (n + i) ≡ Some (cell (v i) (word_kind S κ i)))
      → ((i : ℕ) → i < size S κ → WellLit S H (cell n κ ∷ σ) (v i) (word_kind S κ i))
      → WellLit S H σ n κ

-- the literal is in the scope
unfoldable pub in_scope : Cell → List Cell → Bool
in_scope c [] = false
in_scope c (d ∷ σ) = either (same_cell c d) (in_scope c σ)

-- the word is defined, has the word type κ, and passes the test
abbrev pub holds_well : Option Cell → Kind → (ℕ → Kind → Bool) → Bool
holds_well None κ well = false
holds_well (Some c) κ well = both (same_kind c.kind κ) (well c.value κ)

-- The test: the rules are tried in the judgement's order, each T-PtrC one deeper. Every literal that T-PtrC adds to the scope behind
-- the first is another word of the heap, so no derivation has to be deeper than the heap has words, and one.
unfoldable pub well_lit : Setting → Heap → (deep : ℕ) → List Cell → ℕ → Kind → Bool
well_lit S H zero σ n κ = either (is_base n κ) (in_scope (cell n κ) σ)
well_lit S H (suc deep) σ n κ =
    choose (either (is_base n κ) (in_scope (cell n κ) σ)) (λ _. true)
    (λ _. all_from (λ i. holds_well (look H (n + i)) (word_kind S κ i) (well_lit S H deep (cell n κ ∷ σ))) (size S κ) 0)

-- "The scope starts empty."
abbrev pub literal_well : Setting → Heap → ℕ → Kind → Bool
literal_well S H n κ = well_lit S H (suc (length H)) [] n κ
