-- Which rows are an expression's, in run order: a node's row stands behind its parts' rows; a let has a row between its bound part and its
-- body, and one behind its body; a row that stops ends the table.
use Rattle.std.specs.Prelude.{ℕ, suc, ◌+◌, ◌<◌, ◌≡◌, List, length}
use Rattle.cells.specs.Code.{packed}
use Rattle.cells.specs.declared.Mode.{Mode}
use Rattle.cells.specs.declared.Mode.TheVariants.{Checked}
use Rattle.cells.specs.declared.Kind.{Kind}
use Rattle.calculus.specs.Expr.{Expr, lit, var, malloc, bind, one, two, nodes, One, act, Target, pointer, inside}
use Rattle.calculus.specs.declared.Act.{Act}
use Rattle.tables.specs.Rows.{head_at, datum_at, push, fetch, take, apply, join, hold, drop, stop, task_row, task_row_at}

-- the rows p to q - 1 are those of the expression whose root is node i, in code of mode m
pub data PartRows (types rows : List ℕ) : (m : Mode) (i p : ℕ) → Expr → (q : ℕ) → Type 0 where
  part_lit : {m : Mode} {i p n : ℕ} {κ : Kind} → task_row_at types rows p ≡ task_row (push n κ) m 0 i → PartRows types rows m i p (lit n κ) (suc p)
  part_var : {m : Mode} {i p k : ℕ} → task_row_at types rows p ≡ task_row (fetch k) m 0 i → PartRows types rows m i p (var k) (suc p)
  -- the datum is the very code of the pointer's kind
  part_malloc : {m : Mode} {i p : ℕ} {ω : Target}
      → task_row_at types rows p ≡ task_row (take (pointer Checked ω)) m 0 i → datum_at rows p ≡ packed (pointer Checked ω)
      → PartRows types rows m i p (malloc ω) (suc p)
  part_bind : {m : Mode} {i p q r : ℕ} {a b : Expr}
      → PartRows types rows m (suc i) p a q → task_row_at types rows q ≡ task_row hold m 0 i
      → PartRows types rows m (suc i + nodes a) (suc q) b r → task_row_at types rows r ≡ task_row drop m q i
      → PartRows types rows m i p (bind a b) (suc r)
  part_one : {m : Mode} {i p q : ℕ} {o : One} {e : Expr}
      → PartRows types rows (inside o m) (suc i) p e q → task_row_at types rows q ≡ task_row (apply o) m 0 i
      → PartRows types rows m i p (one o e) (suc q)
  part_two : {m : Mode} {i p q r : ℕ} {o : Act} {a b : Expr}
      → PartRows types rows m (suc i) p a q → PartRows types rows m (suc i + nodes a) q b r → task_row_at types rows r ≡ task_row (join o) m q i
      → PartRows types rows m i p (two (act o) a b) (suc r)

-- the rows from p on are those of the expression, and then one that stops
pub record HoldsExpr (types rows : List ℕ) (m : Mode) (i p : ℕ) (e : Expr) : Type 0 where
  pub end : ℕ
  pub part : PartRows types rows m i p e end
  pub stops : (task_row_at types rows end).work ≡ stop

-- the rows before `end` are as they were, and the numbers are as many
pub record FrontKept (end : ℕ) (rows rows' : List ℕ) : Type 0 where
  pub heads : (p : ℕ) → p < end → head_at rows' p ≡ head_at rows p
  pub datums : (p : ℕ) → p < end → datum_at rows' p ≡ datum_at rows p
  pub long : length rows' ≡ length rows
