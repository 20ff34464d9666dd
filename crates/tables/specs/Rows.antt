-- The rows of an expression in lent numbers, two a row: row p has its head at 2p and its datum at 2p + 1. The datum is a literal's value,
-- the packed kind of a malloc's pointer, or a field's number; else 0. And what a row says: the numbers decoded, by its task.
use Rattle.std.specs.Prelude.{ℕ, ◌+◌, ◌*◌, ◌/◌, Bool, true, false, List, ltb, length, get_or, set}
use Rattle.choice.specs.Choice.{choose}
use Rattle.cells.specs.Code.{unpacked}
use Rattle.cells.specs.declared.Mode.{Mode}
use Rattle.cells.specs.declared.Mode.TheVariants.{Checked, Unchecked}
use Rattle.cells.specs.declared.Kind.{Kind}
use Rattle.calculus.specs.Expr.{One, unchecked, cast, read, field}
use Rattle.calculus.specs.declared.Act.{Act}
use Rattle.tables.specs.Kinds.{type_code_at}
use Rattle.tables.specs.Heads.{task_in, inside_in, slot_in, left_in, node_in}
use Rattle.tables.specs.declared.Task.{Task}
use Rattle.tables.specs.declared.Task.TheVariants as task

-- the whole rows that lent numbers hold: an odd last number is none
abbrev pub whole_rows : List ℕ → ℕ
whole_rows rows = length rows / 2

-- the numbers of row p, 0 where there is no such row
unfoldable pub head_at : (rows : List ℕ) (p : ℕ) → ℕ
head_at rows p = choose (ltb p (whole_rows rows)) (λ _. get_or rows (2 * p) 0) (λ _. 0)

unfoldable pub datum_at : (rows : List ℕ) (p : ℕ) → ℕ
datum_at rows p = choose (ltb p (whole_rows rows)) (λ _. get_or rows (2 * p + 1) 0) (λ _. 0)

-- number j of row p, its head or its datum
abbrev pub row_number : (rows : List ℕ) (p j : ℕ) → ℕ
row_number rows p j = choose (ltb p (whole_rows rows)) (λ _. get_or rows (2 * p + j) 0) (λ _. 0)

-- the numbers after row p was given a head and a datum; no row, no change
unfoldable pub put_row : (rows : List ℕ) (p head datum : ℕ) → List ℕ
put_row rows p head datum = choose (ltb p (whole_rows rows)) (λ _. set (set rows (2 * p) head) (2 * p + 1) datum) (λ _. rows)

-- what a row does, with its operands
pub data Work : Type 0 where
  -- a literal's value and its kind; a variable, so many lets out; a malloc, by the kind of its pointer
  push : ℕ → Kind → Work
  fetch : ℕ → Work
  take : Kind → Work
  -- a node with one part, and one with two
  apply : One → Work
  join : Act → Work
  -- a let, between its bound part and its body; the same behind its body
  hold : Work
  drop : Work
  -- behind the last row
  stop : Work

-- what a row says: its work, the mode of its redex, the row that it tells (of an act the one behind its left part's rows, of a let's end
-- the let's hold; else 0), and the number of its node
pub record TaskRow : Type 0 where
  pub work : Work
  pub mode : Mode
  pub left : ℕ
  pub node : ℕ

abbrev pub task_row : Work → Mode → (left node : ℕ) → TaskRow
task_row w m l i = record { work = w; mode = m; left = l; node = i }

-- "unchecked exactly if its redex lies inside an unchecked block"
abbrev pub inside_mode : (inside : Bool) → Mode
inside_mode true = Unchecked
inside_mode false = Checked

-- the kind of the word type with a number
abbrev pub type_kind : (types : List ℕ) (n : ℕ) → Kind
type_kind types n = unpacked (type_code_at types n)

abbrev pub work_of : (types : List ℕ) → Task → (slot datum : ℕ) → Work
work_of types task.Stop slot datum = stop
work_of types task.Literal slot datum = push datum (type_kind types slot)
work_of types task.Variable slot datum = fetch slot
work_of types task.Malloc slot datum = take (unpacked datum)
work_of types task.Unchecked slot datum = apply unchecked
work_of types task.Cast slot datum = apply (cast (type_kind types slot))
work_of types task.Read slot datum = apply read
work_of types task.Field slot datum = apply (field datum)
work_of types (task.Acts o) slot datum = join o
work_of types task.Bind slot datum = hold
work_of types task.Unbind slot datum = drop

abbrev pub task_row_of : (types : List ℕ) (head datum : ℕ) → TaskRow
task_row_of types head datum =
    task_row (work_of types (task_in head) (slot_in head) datum) (inside_mode (inside_in head)) (left_in head) (node_in head)

-- what row p says
unfoldable pub task_row_at : (types rows : List ℕ) (p : ℕ) → TaskRow
task_row_at types rows p = task_row_of types (head_at rows p) (datum_at rows p)
