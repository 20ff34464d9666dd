-- Loading the image's cells into the lent heap: the words from 1 to W become undefined, then each row of the cell table (address, value,
-- packed code of the kind) is put there as it is.
use Rattle.std.specs.Prelude.{ℕ, zero, suc, ◌+◌, ◌*◌, ◌/◌, List, length, get_or}
use Rattle.cells.specs.Lent.{put_word}

-- `left` rows from row j on
unfoldable pub rows_stored : (rows : List ℕ) (left j : ℕ) (ws : List ℕ) → List ℕ
rows_stored rows zero j ws = ws
rows_stored rows (suc left) j ws =
    rows_stored rows left (suc j) (put_word ws (get_or rows (3 * j) 0) (get_or rows (3 * j + 1) 0) (get_or rows (3 * j + 2) 0))

-- all rows
abbrev pub cells_stored : (rows ws : List ℕ) → List ℕ
cells_stored rows ws = rows_stored rows (length rows / 3) 0 ws
