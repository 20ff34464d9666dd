-- When the lent tables hold a script that the machine can run: the tables and the expression, room for frames and bound values, and a heap.
use Rattle.std.specs.Prelude.{◌≡◌, ℕ, ◌*◌, ◌<◌, ◌≤◌, List, [], map, length, slice_index, slice_index_or}
use Rattle.cells.specs.Code.{packed, Small}
use Rattle.cells.specs.Heap.{Heap, SmallHeap}
use Rattle.cells.specs.Lent.{lent}
use Rattle.cells.specs.declared.Kind.TheVariants.{Int}
use Rattle.calculus.specs.Setting.{Setting}
use Rattle.calculus.specs.Expr.{Expr, nodes}
use Rattle.image.specs.Shape.{Scoped, SmallExpr, height}
use Rattle.image.specs.Tabled.{HeldStructs, Spans}
use Rattle.yields.specs.declared.Terms.{Terms}

-- The lent numbers hold the setting's tables, the expression e and, over the numbers ws that were lent, the heap H; its numbers have 32
-- bits, and malloc may use the addresses that the terms say, which are words of the heap; and there is room to run e.
pub record Ready (S : Setting) (T : Terms) (H : Heap) (e : Expr) (ws heap frames bound table structs types : List ℕ) : Type 0 where
  pub nodes_held : Spans table 0 e
  pub nodes_fill : length table ≡ 4 * nodes e
  pub structs_held : HeldStructs structs S.structs
  pub types_held : types ≡ map packed S.types
  pub fields_small : (s i : ℕ) → slice_index (slice_index_or S.structs s []) i < 256
  pub types_small : (n : ℕ) → Small (slice_index_or S.types n Int)
  pub width_is : S.width ≡ 32
  pub low_is : S.low ≡ T.low
  pub high_is : S.high ≡ T.high
  pub low_above : 0 < T.low
  pub high_within : T.high ≤ T.words
  pub expr_small : SmallExpr e
  pub expr_scoped : Scoped 0 e
  pub frames_room : 4 * height e ≤ length frames
  pub bound_room : 2 * height e ≤ length bound
  pub heap_held : heap ≡ lent H ws
  pub heap_small : SmallHeap H
  pub heap_long : length H ≡ T.words
  pub heap_room : 2 * T.words ≤ length ws
  pub words_few : T.words ≤ 4096
