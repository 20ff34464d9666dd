-- Whether two kinds, or two cells, are the same.
use Rattle.std.specs.Prelude.{Bool, true, false, ◌==◌}
use Rattle.choice.specs.Choice.{both}
use Rattle.cells.specs.declared.Mode.{Mode}
use Rattle.cells.specs.declared.Mode.TheVariants.{Checked, Unchecked}
use Rattle.cells.specs.declared.Kind.{Kind}
use Rattle.cells.specs.declared.Kind.TheVariants.{Int, Word, Struct, Array}
use Rattle.cells.specs.declared.Cell.{Cell}

unfoldable pub same_mode : Mode → Mode → Bool
same_mode Checked Checked = true
same_mode Checked Unchecked = false
same_mode Unchecked Checked = false
same_mode Unchecked Unchecked = true

unfoldable pub same_kind : Kind → Kind → Bool
same_kind Int Int = true
same_kind Int (Word m' n') = false
same_kind Int (Struct m' n') = false
same_kind Int (Array m' k' n') = false
same_kind (Word m n) Int = false
same_kind (Word m n) (Word m' n') = both (same_mode m m') (n == n')
same_kind (Word m n) (Struct m' n') = false
same_kind (Word m n) (Array m' k' n') = false
same_kind (Struct m n) Int = false
same_kind (Struct m n) (Word m' n') = false
same_kind (Struct m n) (Struct m' n') = both (same_mode m m') (n == n')
same_kind (Struct m n) (Array m' k' n') = false
same_kind (Array m k n) Int = false
same_kind (Array m k n) (Word m' n') = false
same_kind (Array m k n) (Struct m' n') = false
same_kind (Array m k n) (Array m' k' n') = both (same_mode m m') (both (k == k') (n == n'))

abbrev pub same_cell : Cell → Cell → Bool
same_cell c d = both (c.value == d.value) (same_kind c.kind d.kind)
