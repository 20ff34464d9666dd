-- What demand 3 says of the end of a run, and of the heap that a script is run over.
use Rattle.std.specs.Prelude.{ℕ, ◌≤◌, ◌<◌, ◌^◌, [], length}
use Rattle.cells.specs.Heap.{Heap}
use Rattle.cells.specs.declared.Kind.{Kind}
use Rattle.calculus.specs.Setting.{Setting, cell}
use Rattle.calculus.specs.Literal.{WellLit}
use Rattle.calculus.specs.declared.End.{End}
use Rattle.calculus.specs.declared.End.TheVariants.{Value, Halted, More}
use Rattle.calculus.specs.declared.Halt.{Halt}

-- The heap fits the setting: malloc uses only addresses of the heap, and every address of the heap is a number of the script's width.
pub record Sized (S : Setting) (H : Heap) : Type 0 where
  pub above : 0 < S.low
  pub within : S.high ≤ length H
  pub wide : length H < 2 ^ S.width

-- A good end of a script of type κ, over the heap H that its run leaves: a value of type κ that is well typed over H; a halt; or the
-- limit. Stuck is none.
pub data GoodEnd (S : Setting) (H : Heap) (κ : Kind) : End → Type 0 where
  good_value : {n : ℕ} → WellLit S H [] n κ → GoodEnd S H κ (Value (cell n κ))
  good_halt : {h : Halt} → GoodEnd S H κ (Halted h)
  good_more : GoodEnd S H κ More
