-- The heap of a content: it has W words, its kinds fit their codes, and storing the rows of the cell table over cleared words makes it.
use Rattle.std.specs.Prelude.{Option, None}
use Prim.Native.Nat.{ℕ, suc, ◌+◌, ◌*◌, ◌/◌, ◌≤◌}
use mathlib.Core.Path.{◌≡◌, refl, sym, ap, ◌∙◌}
use mathlib.Core.List.{List, [], ◌∷◌}
use native.Mathlib.Nat.{add-zero}
use native.Mathlib.Omega.{arith}
use lib.ListN.{length, drop, get_or, replicate, length-replicate}
use lib.Seq.{get_or-drop, drop-drop}
use Rattle.cells.specs.Code.{packed}
use Rattle.cells.specs.Heap.{Heap, update, SmallHeap}
use Rattle.cells.specs.Lent.{lent, stored, cleared}
use Rattle.cells.specs.declared.Cell.{Cell}
use Rattle.cells.proofs.Heaps.{length_update, small_empty, small_update}
use Rattle.cells.proofs.View.{stored_lent, cleared_lent}
use Rattle.cells.specs.declared.Kind.{Kind}
use Rattle.calculus.specs.Setting.{cell}
use Rattle.image.specs.Content.{Placed, placed, heap_of}
use Rattle.image.specs.Tabled.{cell_rows}
use Rattle.image.proofs.CellLaws.{rows_length}
use Rattle.judge.specs.Premises.{CellsRise, none, more}
use Rattle.codlinbell.specs.Placing.{rows_stored, cells_stored}

-- Placing cells keeps a heap's length.
placed_length : (ps : List Placed) (H : Heap) → length (placed ps H) ≡ length H
unfolding placed
placed_length [] H = refl
placed_length (p ∷ ps) H = placed_length ps (update H p.address p.held) ∙ length_update H p.address p.held

-- A content's heap has W words.
pub heap_length : (words : ℕ) (ps : List Placed) → length (heap_of words ps) ≡ words
heap_length words ps = placed_length ps (replicate words None) ∙ length-replicate words None

-- Placing cells whose kinds fit keeps a heap's kinds fitting.
placed_small : {words a : ℕ} {ps : List Placed} → CellsRise words a ps → (H : Heap) → SmallHeap H → SmallHeap (placed ps H)
unfolding placed
placed_small none H s = s
placed_small (more {p = p} h l k r) H s = placed_small r (update H p.address p.held) (small_update H p.address p.held s k)

pub heap_small : {words : ℕ} {ps : List Placed} → CellsRise words 0 ps → SmallHeap (heap_of words ps)
heap_small {words} r = placed_small r (replicate words None) (small_empty words)

-- A number of row j, of rows whose part from there on is known.
row_at : (rows : List ℕ) (j i : ℕ) (xs : List ℕ) → drop (3 * j) rows ≡ xs → get_or rows (3 * j + i) 0 ≡ get_or xs i 0
row_at rows j i xs e = sym (get_or-drop (3 * j) rows i 0) ∙ ap (λ (l : List ℕ). get_or l i 0) e

-- The rows behind row j.
rows_behind : (rows : List ℕ) (j a v k : ℕ) (xs : List ℕ) → drop (3 * j) rows ≡ a ∷ v ∷ k ∷ xs → drop (3 * suc j) rows ≡ xs
rows_behind rows j a v k xs e =
    let n : 3 * suc j ≡ 3 * j + 3 = omega arith in
    rw n (sym (drop-drop 3 (3 * j) rows) ∙ ap (λ (l : List ℕ). drop 3 l) e)

-- Row j is stored, and then the rest.
row_stored_lem : (rows ws ws' : List ℕ) (n j a v : ℕ) (κ : Kind) → get_or rows (3 * j) 0 ≡ a → get_or rows (3 * j + 1) 0 ≡ v
    → get_or rows (3 * j + 2) 0 ≡ packed κ → stored ws a (cell v κ) ≡ ws' → rows_stored rows (suc n) j ws ≡ rows_stored rows n (suc j) ws'
unfolding rows_stored stored
row_stored_lem rows ws ws' n j a v κ ea ev ek e = rw (ea, ev, ek, e)

-- Storing the rows of cells, from row j on, over a lent heap places the cells.
rows_lent : (rows : List ℕ) {words a : ℕ} {ps : List Placed} → CellsRise words a ps → (j : ℕ) (H : Heap) (ws : List ℕ) → drop (3 * j) rows ≡ cell_rows ps
    → words ≤ length H → 2 * length H ≤ length ws → rows_stored rows (length ps) j (lent H ws) ≡ lent (placed ps H) ws
unfolding rows_stored placed cell_rows
rows_lent rows none j H ws e l r = refl
rows_lent rows (more {p = p} {ps = ps} h i s t) j H ws e l r =
    let xs : List ℕ = p.address ∷ p.held.value ∷ packed p.held.kind ∷ cell_rows ps in
    let long : length (update H p.address p.held) ≡ length H = length_update H p.address p.held in
    row_stored_lem rows (lent H ws) (lent (update H p.address p.held) ws) (length ps) j p.address p.held.value p.held.kind
    (rw add-zero at (row_at rows j 0 xs e)) (row_at rows j 1 xs e) (row_at rows j 2 xs e) (stored_lent H ws p.address p.held (omega arith) r)
    ∙ rows_lent rows t (suc j) (update H p.address p.held) ws (rows_behind rows j _ _ _ (cell_rows ps) e) (omega arith) (omega arith)

-- Clearing the words and storing the rows makes the content's heap.
pub cells_made : (ws : List ℕ) (words : ℕ) (ps : List Placed) → CellsRise words 0 ps → 2 * words ≤ length ws
    → cells_stored (cell_rows ps) (cleared ws words) ≡ lent (heap_of words ps) ws
cells_made ws words ps r h =
    let n : length (cell_rows ps) / 3 ≡ length ps = omega (arith, rows_length ps) in
    let l : length (replicate {A = Option Cell} words None) ≡ words = length-replicate {A = Option Cell} words None in
    rw (n, cleared_lent ws words h) (rows_lent (cell_rows ps) r 0 (replicate words None) ws refl (omega arith) (omega arith))
