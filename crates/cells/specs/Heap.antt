-- A heap: "The heap has W words, addresses 1 to W. A word is undefined or holds a value together with its type. Address 0 is never
-- defined."
use Rattle.std.specs.Prelude.{ℕ, zero, suc, Bool, true, false, List, slice_index_or, slice_set, Option, Some, None}
use Rattle.cells.specs.Code.{Small}
use Rattle.cells.specs.declared.Cell.{Cell}

-- the words at addresses 1, 2, ..
abbrev pub Heap : Type 0
Heap = List (Option Cell)

-- the word at an address
unfoldable pub look : Heap → ℕ → Option Cell
look H zero = None
look H (suc i) = slice_index_or H i None

-- the heap in which the word at an address holds the cell
unfoldable pub update : Heap → ℕ → Cell → Heap
update H zero c = H
update H (suc i) c = slice_set H i (Some c)

abbrev pub undefined : Option Cell → Bool
undefined None = true
undefined (Some c) = false

-- a word that holds no kind whose numbers do not fit their fields of the code
pub data SmallWord : Option Cell → Type 0 where
  small_undefined : SmallWord None
  small_held : {c : Cell} → Small c.kind → SmallWord (Some c)

-- a heap of such words
pub record SmallHeap (H : Heap) : Type 0 where
  pub each : (a : ℕ) → SmallWord (look H a)
