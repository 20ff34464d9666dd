-- When the lent numbers hold a script that the machine can run: the tables and the expression's rows, room for values, and a heap.
use Rattle.std.specs.Prelude.{◌≡◌, ℕ, ◌*◌, ◌<◌, ◌≤◌, List, length}
use Rattle.cells.specs.Heap.{Heap, SmallHeap}
use Rattle.cells.specs.Lent.{lent}
use Rattle.cells.specs.declared.Mode.TheVariants.{Checked}
use Rattle.calculus.specs.Setting.{Setting}
use Rattle.calculus.specs.Expr.{Expr}
use Rattle.image.specs.Shape.{Scoped, height}
use Rattle.tables.specs.Kinds.{HoldsSetting}
use Rattle.tables.specs.Parts.{HoldsExpr}
use Rattle.yields.specs.declared.Terms.{Terms}

-- The lent numbers hold the setting's tables, the rows of the expression e and, over the numbers ws that were lent, the heap H; the terms
-- are the setting's, with addresses of the heap for malloc; and there is room to run e.
pub record StepReady (S : Setting) (T : Terms) (H : Heap) (e : Expr) (ws heap stack bound rows structs types : List ℕ) : Type 0 where
  pub setting_held : HoldsSetting S structs types
  pub rows_held : HoldsExpr types rows Checked 0 0 e
  pub width_is : S.width ≡ 32
  pub low_is : S.low ≡ T.low
  pub high_is : S.high ≡ T.high
  pub low_above : 0 < T.low
  pub high_within : T.high ≤ T.words
  pub expr_scoped : Scoped 0 e
  pub stack_room : 2 * height e ≤ length stack
  pub bound_room : 2 * height e ≤ length bound
  pub heap_held : heap ≡ lent H ws
  pub heap_small : SmallHeap H
  pub heap_long : length H ≡ T.words
  pub heap_room : 2 * T.words ≤ length ws
  pub words_few : T.words ≤ 4096
