-- Of a heap of undefined words and of one after an update: its words, its length, and that its kinds' numbers still fit.
use Rattle.std.proofs.Common.{◌≡◌, ℕ, zero, suc, ◌<◌, ◌≤◌, true, [], ◌∷◌, length, get_or, set, replicate, refl, arith, length-set, get_or-set_other, get_or-set_same, Option, Some, None}
use Rattle.cells.specs.Code.{Small}
use Rattle.cells.specs.Heap.{Heap, look, update, undefined, SmallWord, small_undefined, small_held, SmallHeap}
use Rattle.cells.specs.declared.Cell.{Cell}

-- an update keeps the length
pub length_update : (H : Heap) (a : ℕ) (c : Cell) → length (update H a c) ≡ length H
unfolding update
length_update H zero c = refl
length_update H (suc i) c = length-set H i (Some c)

-- the updated word holds the cell
pub look_same : (H : Heap) (a : ℕ) (c : Cell) → 0 < a → a ≤ length H → look (update H a c) a ≡ Some c
unfolding look update
look_same H zero c p l = absurd (omega arith)
look_same H (suc i) c p l = get_or-set_same H i (Some c) None l

-- every other word is as it was
pub look_other : (H : Heap) (a b : ℕ) (c : Cell) → (b ≡ a → ⊥) → look (update H a c) b ≡ look H b
unfolding look update
look_other H zero b c n = refl
look_other H (suc i) zero c n = refl
look_other H (suc i) (suc j) c n = get_or-set_other H i j (Some c) None (omega arith)

-- every word of a heap of undefined words is undefined
pub look_empty : (n a : ℕ) → look (replicate n None) a ≡ None
unfolding look
look_empty n zero = refl
look_empty zero (suc i) = refl
look_empty (suc n) (suc zero) = refl
look_empty (suc n) (suc (suc i)) = look_empty n (suc i)

-- a heap of undefined words holds no kind
pub small_empty : (n : ℕ) → SmallHeap (replicate n None)
small_empty n = record { each = λ a. rw look_empty small_undefined }

small_set : (H : Heap) (i j : ℕ) (w : Option Cell) → SmallWord w → SmallWord (get_or H j None) → SmallWord (get_or (set H i w) j None)
small_set [] i j w s h = h
small_set (x ∷ H) zero zero w s h = s
small_set (x ∷ H) zero (suc j) w s h = h
small_set (x ∷ H) (suc i) zero w s h = h
small_set (x ∷ H) (suc i) (suc j) w s h = small_set H i j w s h

-- an update by a cell whose kind's numbers fit keeps them all fitting
pub small_update : (H : Heap) (a : ℕ) (c : Cell) → SmallHeap H → Small c.kind → SmallHeap (update H a c)
unfolding look update
small_update H a c h s = record { each = go a }
  where
    go : (a b : ℕ) → SmallWord (look (update H a c) b)
    go zero b = h.each b
    go (suc i) zero = small_undefined
    go (suc i) (suc j) = small_set H i j (Some c) (small_held s) (h.each (suc j))

undefined_set : (H : Heap) (i j : ℕ) (c : Cell) → undefined (get_or (set H i (Some c)) j None) ≡ true → undefined (get_or H j None) ≡ true
undefined_set [] i j c h = h
undefined_set (x ∷ H) zero zero c h = let z : ◌≡◌ {A = ℕ} 0 1 = cc in absurd (omega arith)
undefined_set (x ∷ H) zero (suc j) c h = h
undefined_set (x ∷ H) (suc i) zero c h = h
undefined_set (x ∷ H) (suc i) (suc j) c h = undefined_set H i j c h

-- words are never freed: a word that is undefined after an update was undefined before
pub undefined_update : (H : Heap) (a b : ℕ) (c : Cell) → undefined (look (update H a c) b) ≡ true → undefined (look H b) ≡ true
unfolding look update
undefined_update H zero b c h = h
undefined_update H (suc i) zero c h = h
undefined_update H (suc i) (suc j) c h = undefined_set H i j c h
