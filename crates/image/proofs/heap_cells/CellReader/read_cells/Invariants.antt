-- `image::heap_cells::CellReader::read_cells` fills the table as `cells_into` says: what is left to read gives what the whole gives, and no address is
-- above W. Assumes nothing.
use mathlib.Core.Path.{◌≡◌}
use Prim.Native.Nat.{◌-◌, ◌≤◌}
use Rattle.image.specs.Tabling.{cells_into}
use Rattle.image.proofs.heap_cells.CellReader.read_cells.Given as goal

abbrev pub invariant-loop-i : goal.invariant-loop-i
invariant-loop-i l =
    (cells_into l.self.image.now l.self.words l.self.types.now l.self.known l.count 0 0 l.first l.initial.cells
    ≡ cells_into l.self.image.now l.self.words l.self.types.now l.self.known (l.count - l.i) l.before l.i l.at l.cells)
    × (l.before ≤ l.self.words)
