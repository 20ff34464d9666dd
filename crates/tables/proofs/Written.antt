-- What a reader that writes a node's row behind its parts' rows may say of the rows then: one law for each kind of node, from the rows of
-- its parts and the row just written.
use Prim.Native.Nat.{ℕ, suc, ◌+◌, ◌<◌}
use mathlib.Core.Path.{◌≡◌, ◌∙◌, ap}
use mathlib.Core.Bool.{Bool, false}
use mathlib.Core.List.{List}
use native.Mathlib.Omega.{arith}
use lib.ListN.{length}
use Rattle.cells.specs.Code.{packed, Small}
use Rattle.cells.specs.declared.Mode.{Mode}
use Rattle.cells.specs.declared.Mode.TheVariants.{Checked}
use Rattle.cells.specs.declared.Kind.{Kind}
use Rattle.cells.proofs.Codes.{round_trip}
use Rattle.calculus.specs.Expr.{Expr, lit, var, malloc, bind, one, two, nodes, One, act, Target, pointer, inside}
use Rattle.calculus.specs.declared.Act.{Act}
use Rattle.tables.specs.Heads.{head_number}
use Rattle.tables.specs.Rows.{whole_rows, put_row, Work, push, take, apply, type_kind, work_of, inside_mode, TaskRow, task_row, task_row_at}
use Rattle.tables.specs.Parts.{PartRows, part_lit, part_var, part_malloc, part_bind, part_one, part_two, HoldsExpr, FrontKept}
use Rattle.tables.specs.declared.Task.{Task}
use Rattle.tables.specs.declared.Task.TheVariants as task
use Rattle.tables.proofs.Placed.{length_row, datum_there, row_put_lem, row_made}
use Rattle.tables.proofs.Laid.{forward, kept_put, front_row, part_kept}

-- a row just written, of a head whose fields fit
pub row_written : (types rows : List ℕ) (p : ℕ) (t : Task) (b : Bool) (slot left node datum : ℕ)
    → p < whole_rows rows → slot < 512 → left < 8192 → node < 4096
    → task_row_at types (put_row rows p (head_number t b slot left node) datum) p ≡ task_row (work_of types t slot datum) (inside_mode b) left node
row_written types rows p t b slot left node datum r s l n =
    row_put_lem types rows p (head_number t b slot left node) datum r ∙ row_made types t b slot left node datum s l n

-- ---- leaves
module _ (types rows : List ℕ) (b : Bool) (i p : ℕ) (there : p < whole_rows rows) (small : i < 4096) where
  pub literal_written : (slot n : ℕ) {κ : Kind} → slot < 512 → type_kind types slot ≡ κ
      → PartRows types (put_row rows p (head_number task.Literal b slot 0 i) n) (inside_mode b) i p (lit n κ) (suc p)
  literal_written slot n l k =
      part_lit (row_written types rows p task.Literal b slot 0 i n there l (omega arith) small ∙ ap (λ (κ : Kind). task_row (push n κ) (inside_mode b) 0 i) k)

  pub variable_written : (k : ℕ) → k < 512
      → PartRows types (put_row rows p (head_number task.Variable b k 0 i) 0) (inside_mode b) i p (var k) (suc p)
  variable_written k l = part_var (row_written types rows p task.Variable b k 0 i 0 there l (omega arith) small)

  pub malloc_written : (ω : Target) → Small (pointer Checked ω)
      → PartRows types (put_row rows p (head_number task.Malloc b 0 0 i) (packed (pointer Checked ω))) (inside_mode b) i p (malloc ω) (suc p)
  malloc_written ω s =
      part_malloc
      (row_written types rows p task.Malloc b 0 0 i (packed (pointer Checked ω)) there (omega arith) (omega arith) small
      ∙ ap (λ (κ : Kind). task_row (take κ) (inside_mode b) 0 i) (round_trip s))
      (datum_there rows p (head_number task.Malloc b 0 0 i) (packed (pointer Checked ω)) there)

-- ---- nodes with parts
module _ (types : List ℕ) (b : Bool) (i : ℕ) (small : i < 4096) where
  -- any task whose work is to apply the operation to one part
  pub one_written : {rows : List ℕ} {p q : ℕ} {o : One} {e : Expr} (t : Task) (slot datum : ℕ) → slot < 512 → work_of types t slot datum ≡ apply o
      → PartRows types rows (inside o (inside_mode b)) (suc i) p e q → q < whole_rows rows
      → PartRows types (put_row rows q (head_number t b slot 0 i) datum) (inside_mode b) i p (one o e) (suc q)
  one_written {rows} {q = q} t slot datum l w x there =
      part_one (part_kept (kept_put rows {end = q} (head_number t b slot 0 i) datum (omega arith)) (omega arith) x)
      (row_written types rows q t b slot 0 i datum there l (omega arith) small ∙ ap (λ (w : Work). task_row w (inside_mode b) 0 i) w)

  -- the right part was written behind the left one's rows, and then the row
  pub act_written : {rows rows' : List ℕ} {p q r : ℕ} {u v : Expr} (o : Act)
      → PartRows types rows (inside_mode b) (suc i) p u q → FrontKept q rows rows' → PartRows types rows' (inside_mode b) (suc i + nodes u) q v r
      → r < whole_rows rows' → q < 8192
      → PartRows types (put_row rows' r (head_number (task.Acts o) b 0 q i) 0) (inside_mode b) i p (two (act o) u v) (suc r)
  act_written {rows' = rows'} {q = q} {r = r} o x k y there low =
      let n = forward y in
      let put : FrontKept r rows' (put_row rows' r (head_number (task.Acts o) b 0 q i) 0) =
      kept_put rows' (head_number (task.Acts o) b 0 q i) 0 (omega arith) in
      part_two (part_kept put (omega arith) (part_kept k (omega arith) x)) (part_kept put (omega arith) y)
      (row_written types rows' r (task.Acts o) b 0 q i 0 there (omega arith) low small)

  -- the hold was written behind the bound part's rows, the body behind it, and then the row
  pub let_written : {rows rows' : List ℕ} {p q r : ℕ} {u v : Expr}
      → PartRows types rows (inside_mode b) (suc i) p u q → FrontKept (suc q) (put_row rows q (head_number task.Bind b 0 0 i) 0) rows'
      → PartRows types rows' (inside_mode b) (suc i + nodes u) (suc q) v r → r < whole_rows rows' → q < 8192
      → PartRows types (put_row rows' r (head_number task.Unbind b 0 q i) 0) (inside_mode b) i p (bind u v) (suc r)
  let_written {rows} {rows'} {q = q} {r = r} x k y there low =
      let n = forward y in
      let long : length rows' ≡ length rows = k.long ∙ length_row rows q (head_number task.Bind b 0 0 i) 0 in
      let hold_put : FrontKept q rows (put_row rows q (head_number task.Bind b 0 0 i) 0) = kept_put rows (head_number task.Bind b 0 0 i) 0 (omega arith) in
      let put : FrontKept r rows' (put_row rows' r (head_number task.Unbind b 0 q i) 0) = kept_put rows' (head_number task.Unbind b 0 q i) 0 (omega arith) in
      part_bind (part_kept put (omega arith) (part_kept k (omega arith) (part_kept hold_put (omega arith) x)))
      (front_row types q put (omega arith) ∙ front_row types q k (omega arith)
      ∙ row_written types rows q task.Bind b 0 0 i 0 (omega arith) (omega arith) (omega arith) small)
      (part_kept put (omega arith) y)
      (row_written types rows' r task.Unbind b 0 q i 0 there (omega arith) low small)

-- ---- the whole expression, and behind it the row that stops
pub expr_written : {types rows : List ℕ} {m : Mode} {i p q : ℕ} {e : Expr} → PartRows types rows m i p e q → q < whole_rows rows
    → HoldsExpr types (put_row rows q (head_number task.Stop false 0 0 0) 0) m i p e
expr_written {types} {rows} {q = q} x there =
    record {
      end = q;
      part = part_kept (kept_put rows {end = q} (head_number task.Stop false 0 0 0) 0 (omega arith)) (omega arith) x;
      stops = ap (λ (t : TaskRow). t.work)
          (row_written types rows q task.Stop false 0 0 0 0 there (omega arith) (omega arith) (omega arith));
    }
