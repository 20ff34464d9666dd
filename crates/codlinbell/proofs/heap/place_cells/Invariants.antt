-- `codlinbell::heap::place_cells` stores every row. The loop's invariant is `Placing`: the rows still to be stored are those that are left,
-- and storing them brings the heap to where all rows would have brought it.
use Rattle.std.specs.Prelude.{ℕ, ◌-◌, ◌/◌, ◌≡◌, List, length}
use Rattle.codlinbell.specs.Placing.{rows_stored}
use Rattle.codlinbell.proofs.heap.place_cells.Given as goal

pub record Placing (heap₀ rows heap : List ℕ) (j : ℕ) : Type 0 where
  pub long : length heap ≡ length heap₀
  pub same : rows_stored rows (length rows / 3) 0 heap₀ ≡ rows_stored rows (length rows / 3 - j) j heap

abbrev pub invariant-loop-j : goal.invariant-loop-j
invariant-loop-j l = Placing l.initial.heap l.rows l.heap l.j
