-- What the laws of the judge take from the cell table: that it holds a heap, with rising addresses and codes that are those of their kinds.
use Rattle.std.specs.Prelude.{Some}
use mathlib.Core.Path.{◌≡◌}
use mathlib.Core.List.{List}
use Prim.Native.Nat.{ℕ, ◌<◌}
use Rattle.cells.specs.Code.{packed, unpacked}
use Rattle.cells.specs.Heap.{Heap, look}
use Rattle.cells.specs.declared.Cell.{Cell}
use Rattle.calculus.specs.Setting.{cell}
use Rattle.judge.specs.Rows.{entry_at}
use Rattle.judge.specs.Addresses.{entries}

-- an entry with this address
pub record Entry (cells : List ℕ) (address : ℕ) : Type 0 where
  pub index : ℕ
  pub below : index < entries cells
  pub is : entry_at cells index 0 ≡ address

-- the literal that an entry is
abbrev pub literal_at : List ℕ → ℕ → Cell
literal_at cells j = cell (entry_at cells j 1) (unpacked (entry_at cells j 2))

-- cells
pub record HoldsHeap (H : Heap) (cells : List ℕ) : Type 0 where
  pub rising : (i j : ℕ) → i < j → j < entries cells → entry_at cells i 0 < entry_at cells j 0
  pub held : (j : ℕ) → j < entries cells → look H (entry_at cells j 0) ≡ Some (literal_at cells j)
  pub exact : (j : ℕ) → j < entries cells → packed (unpacked (entry_at cells j 2)) ≡ entry_at cells j 2
  pub only : (a : ℕ) (d : Cell) → look H a ≡ Some d → Entry cells a
