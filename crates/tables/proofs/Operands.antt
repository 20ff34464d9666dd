-- From what a row says back to its numbers: its task, its mode, the row and the node that it tells, and where its operands stand.
use Prim.Native.Nat.{ℕ}
use mathlib.Core.Path.{◌≡◌, refl, sym, ◌∙◌, ap, subst}
use mathlib.Core.List.{List}
use Rattle.cells.specs.Code.{unpacked}
use Rattle.cells.specs.declared.Mode.{Mode}
use Rattle.calculus.specs.Expr.{One, unchecked, cast, read, field}
use Rattle.tables.specs.Heads.{task_in, inside_in, slot_in, left_in, node_in}
use Rattle.tables.specs.Rows.{head_at, datum_at, type_kind, work_of, inside_mode, TaskRow, task_row, task_row_at}
use Rattle.tables.specs.Rows.{Work, push, fetch, take, apply, join, hold, drop, stop}
use Rattle.tables.specs.declared.Task.{Task}
use Rattle.tables.specs.declared.Task.TheVariants as task

abbrev pub one_task : One → Task
one_task unchecked = task.Unchecked
one_task (cast κ) = task.Cast
one_task read = task.Read
one_task (field f) = task.Field

abbrev pub work_task : Work → Task
work_task (push n κ) = task.Literal
work_task (fetch k) = task.Variable
work_task (take κ) = task.Malloc
work_task (apply o) = one_task o
work_task (join o) = task.Acts o
work_task hold = task.Bind
work_task drop = task.Unbind
work_task stop = task.Stop

-- where the operands stand
abbrev pub OneOperands : (types : List ℕ) → One → (slot datum : ℕ) → Type 0
OneOperands types unchecked slot datum = Unit {0}
OneOperands types (cast κ) slot datum = type_kind types slot ≡ κ
OneOperands types read slot datum = Unit {0}
OneOperands types (field f) slot datum = datum ≡ f

abbrev pub Operands : (types : List ℕ) → Work → (slot datum : ℕ) → Type 0
Operands types (push n κ) slot datum = (datum ≡ n) × (type_kind types slot ≡ κ)
Operands types (fetch k) slot datum = slot ≡ k
Operands types (take κ) slot datum = unpacked datum ≡ κ
Operands types (apply o) slot datum = OneOperands types o slot datum
Operands types (join o) slot datum = Unit {0}
Operands types hold slot datum = Unit {0}
Operands types drop slot datum = Unit {0}
Operands types stop slot datum = Unit {0}

-- the numbers of a row that says this
pub record RowSays (types rows : List ℕ) (p : ℕ) (w : Work) (m : Mode) (left node : ℕ) : Type 0 where
  pub task_is : task_in (head_at rows p) ≡ work_task w
  pub operands : Operands types w (slot_in (head_at rows p)) (datum_at rows p)
  pub mode_is : inside_mode (inside_in (head_at rows p)) ≡ m
  pub left_is : left_in (head_at rows p) ≡ left
  pub node_is : node_in (head_at rows p) ≡ node

task_of_work : (types : List ℕ) (t : Task) (slot datum : ℕ) → work_task (work_of types t slot datum) ≡ t
task_of_work types task.Stop slot datum = refl
task_of_work types task.Literal slot datum = refl
task_of_work types task.Variable slot datum = refl
task_of_work types task.Malloc slot datum = refl
task_of_work types task.Unchecked slot datum = refl
task_of_work types task.Cast slot datum = refl
task_of_work types task.Read slot datum = refl
task_of_work types task.Field slot datum = refl
task_of_work types (task.Acts o) slot datum = refl
task_of_work types task.Bind slot datum = refl
task_of_work types task.Unbind slot datum = refl

operands_of : (types : List ℕ) (t : Task) (slot datum : ℕ) → Operands types (work_of types t slot datum) slot datum
operands_of types task.Stop slot datum = tt
operands_of types task.Literal slot datum = (refl, refl)
operands_of types task.Variable slot datum = refl
operands_of types task.Malloc slot datum = refl
operands_of types task.Unchecked slot datum = tt
operands_of types task.Cast slot datum = refl
operands_of types task.Read slot datum = tt
operands_of types task.Field slot datum = refl
operands_of types (task.Acts o) slot datum = tt
operands_of types task.Bind slot datum = tt
operands_of types task.Unbind slot datum = tt

pub row_says : (types rows : List ℕ) (p : ℕ) {w : Work} {m : Mode} {left node : ℕ} → task_row_at types rows p ≡ task_row w m left node
    → RowSays types rows p w m left node
unfolding task_row_at
row_says types rows p {w} e =
    let t : Task = task_in (head_at rows p) in
    let slot : ℕ = slot_in (head_at rows p) in
    let datum : ℕ = datum_at rows p in
    let is : work_of types t slot datum ≡ w = ap (λ (r : TaskRow). r.work) e in
    record {
      task_is = sym (task_of_work types t slot datum) ∙ ap work_task is;
      operands = subst (λ (w : Work). Operands types w slot datum) is (operands_of types t slot datum);
      mode_is = ap (λ (r : TaskRow). r.mode) e;
      left_is = ap (λ (r : TaskRow). r.left) e;
      node_is = ap (λ (r : TaskRow). r.node) e;
    }
