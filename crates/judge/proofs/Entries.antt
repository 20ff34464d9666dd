-- The cell table of an image whose addresses rise holds the heap that its cells make.
use Rattle.std.specs.Prelude.{Some, None}
use mathlib.Core.Path.{◌≡◌, refl, sym, ◌∙◌, ap}
use mathlib.Core.Logic.{◌⊎◌, inl, inr, ⊎_elim}
use mathlib.Core.List.{List, [], ◌∷◌}
use Prim.Native.Nat.{ℕ, zero, suc, ◌+◌, ◌*◌, ◌/◌, ◌≤◌, ◌<◌}
use native.Mathlib.Decide.{ℕ_discrete}
use native.Mathlib.Omega.{arith}
use lib.Dec.{leb-suc-suc}
use lib.ListN.{length, get_or, replicate, length-replicate}
use Rattle.cells.specs.Code.{packed, unpacked}
use Rattle.cells.specs.Heap.{Heap, look, update}
use Rattle.cells.specs.declared.Cell.{Cell}
use Rattle.cells.proofs.Codes.{round_trip}
use Rattle.cells.proofs.Heaps.{length_update, look_same, look_other, look_empty}
use Rattle.calculus.specs.Setting.{cell}
use Rattle.calculus.proofs.Same.{not_held}
use Rattle.image.specs.Content.{Placed, placed, heap_of}
use Rattle.image.specs.Tabled.{cell_rows}
use Rattle.judge.specs.Rows.{table_number, entry_at}
use Rattle.judge.specs.Addresses.{entries}
use Rattle.judge.specs.Premises.{CellsRise, none, more}
use Rattle.judge.proofs.Lists.{in_row_lem}
use Rattle.judge.proofs.HeldTables.{literal_at, HoldsHeap}

-- number k of the entry behind the first
next : (p : Placed) (ps : List Placed) (j k : ℕ) → entry_at (cell_rows (p ∷ ps)) (suc j) k ≡ entry_at (cell_rows ps) j k
unfolding cell_rows table_number
next p ps j k =
    let e : 3 * suc j + k ≡ suc (suc (suc (3 * j + k))) = omega arith in
    let d : suc (suc (suc (length (cell_rows ps)))) / 3 ≡ suc (length (cell_rows ps) / 3) = omega arith in
    rw (d, leb-suc-suc, e)

-- number k of the first
first : (p : Placed) (ps : List Placed) (k : ℕ) → entry_at (cell_rows (p ∷ ps)) 0 k ≡ get_or (cell_rows (p ∷ ps)) k 0
unfolding cell_rows
first p ps k =
    let e : 3 * 0 + k ≡ k = omega arith in
    rw (in_row_lem 3 (cell_rows (p ∷ ps)) 0 k (omega arith), e)

rows : (ps : List Placed) → length (cell_rows ps) ≡ 3 * length ps
unfolding cell_rows
rows [] = refl
rows (p ∷ ps) = rw (rows ps) (omega arith)

pub entries_rows : (ps : List Placed) → entries (cell_rows ps) ≡ length ps
entries_rows ps = omega (arith, rows ps)

-- an entry's address is behind that of the cell before, and within the words
address : {words a : ℕ} {ps : List Placed} → CellsRise words a ps → (j : ℕ) → j < length ps
    → (a < entry_at (cell_rows ps) j 0) × (entry_at (cell_rows ps) j 0 ≤ words)
unfolding cell_rows
address none j l = absurd (omega arith)
address (more {p} {ps} b w s r) zero l = rw (first p ps 0) (b, w)
address (more {p} {ps} b w s r) (suc j) l =
    let (c, d) = address r j (omega arith) in
    rw (next p ps j 0) (omega (arith, c, d))

rises : {words a : ℕ} {ps : List Placed} → CellsRise words a ps → (i j : ℕ) → i < j → j < length ps
    → entry_at (cell_rows ps) i 0 < entry_at (cell_rows ps) j 0
unfolding cell_rows
rises none i j h l = absurd (omega arith)
rises (more b w s r) i zero h l = absurd (omega arith)
rises (more {p} {ps} b w s r) zero (suc j) h l = rw (first p ps 0, next p ps j 0) (address r j (omega arith)).0
rises (more {p} {ps} b w s r) (suc i) (suc j) h l = rw (next p ps i 0, next p ps j 0) (rises r i j (omega arith) (omega arith))

exact : {words a : ℕ} {ps : List Placed} → CellsRise words a ps → (j : ℕ) → j < length ps
    → packed (unpacked (entry_at (cell_rows ps) j 2)) ≡ entry_at (cell_rows ps) j 2
unfolding cell_rows
exact none j l = absurd (omega arith)
exact (more {p} {ps} b w s r) zero l = rw (first p ps 2) (ap packed (round_trip s))
exact (more {p} {ps} b w s r) (suc j) l = rw (next p ps j 2) (exact r j (omega arith))

-- what stands at or before the first address is not touched by the cells
untouched : {words a : ℕ} {ps : List Placed} → CellsRise words a ps → (H : Heap) (b : ℕ) → b ≤ a → look (placed ps H) b ≡ look H b
unfolding placed
untouched none H b l = refl
untouched (more {p} {ps} h w s r) H b l =
    untouched r (update H p.address p.held) b (omega arith) ∙ look_other H p.address b p.held (λ e. omega arith)

held : {words a : ℕ} {ps : List Placed} → CellsRise words a ps → (H : Heap) → length H ≡ words → (j : ℕ) → j < length ps
    → look (placed ps H) (entry_at (cell_rows ps) j 0) ≡ Some (literal_at (cell_rows ps) j)
unfolding cell_rows placed
held none H e j l = absurd (omega arith)
held (more {p} {ps} b w s r) H e zero l =
    rw (first p ps 0, first p ps 1, first p ps 2)
    (untouched r (update H p.address p.held) p.address (omega arith)
    ∙ look_same H p.address p.held (omega arith) (omega arith)
    ∙ ap (λ (κ : _). Some (cell p.held.value κ)) (sym (round_trip s)))
held (more {p} {ps} b w s r) H e (suc j) l =
    rw (next p ps j 0, next p ps j 1, next p ps j 2)
    (held r (update H p.address p.held) (length_update H p.address p.held ∙ e) j (omega arith))

-- a word that is defined was, or is an entry
defined : {words a : ℕ} {ps : List Placed} → CellsRise words a ps → (H : Heap) (b : ℕ) (d : Cell) → look (placed ps H) b ≡ Some d
    → (look H b ≡ Some d) ⊎ ((j : ℕ) × (j < length ps) × (entry_at (cell_rows ps) j 0 ≡ b))
unfolding cell_rows placed
defined none H b d e = inl e
defined (more {p} {ps} h w s r) H b d e =
    ⊎_elim (λ f. here (ℕ_discrete b p.address) f) (λ f. inr (suc f.0, omega (arith, f.1), rw (next p ps f.0 0) f.2))
    (defined r (update H p.address p.held) b d e)
  where
    here : Dec (b ≡ p.address) → look (update H p.address p.held) b ≡ Some d
        → (look H b ≡ Some d) ⊎ ((j : ℕ) × (j < length (p ∷ ps)) × (entry_at (cell_rows (p ∷ ps)) j 0 ≡ b))
    here (yes f) g = inr (0, omega arith, first p ps 0 ∙ sym f)
    here (no n) g = inl (sym (look_other H p.address b p.held n) ∙ g)

pub holds_heap : {words : ℕ} {ps : List Placed} → CellsRise words 0 ps → HoldsHeap (heap_of words ps) (cell_rows ps)
holds_heap {words} {ps} r =
    record {
      rising = λ i j h l. rises r i j h (omega (arith, entries_rows ps));
      held = λ j l. held r (replicate words None) (length-replicate words None) j (omega (arith, entries_rows ps));
      exact = λ j l. exact r j (omega (arith, entries_rows ps));
      only = λ a d e.
          ⊎_elim
          (λ f. absurd (not_held (sym (look_empty words a) ∙ f)))
          (λ f. record { index = f.0; below = omega (arith, entries_rows ps, f.1); is = f.2 })
          (defined r (replicate words None) a d e);
    }
