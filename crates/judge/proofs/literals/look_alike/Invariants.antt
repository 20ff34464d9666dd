-- `judge::literals::look_alike` passes over words of one code. The loop's invariant: the pass over the words that are left, from here on,
-- gives the same, and may meet as many as are left. The measure is how many are left. Assumes nothing.
use mathlib.Core.Path.{◌≡◌}
use mathlib.Core.List.{List}
use Prim.Native.Nat.{ℕ, ◌+◌, ◌<◌, ◌≤◌}
use Rattle.judge.specs.Marks.{seen}
use Rattle.judge.specs.Literals.{Looking, look_alike}
use Rattle.judge.proofs.literals.look_alike.Given as goal

pub record Passing (cells : List ℕ) (code stop : ℕ) (start : Looking) (marks queue : List ℕ) (end j left : ℕ) : Type 0 where
  pub far : j + left ≡ stop
  pub deep : ℕ
  pub enough : left ≤ deep
  pub small : left < 65536
  pub same : start ≡ look_alike cells code deep left j (seen marks queue end)

abbrev pub invariant-loop-left : goal.invariant-loop-left
invariant-loop-left l =
    Passing l.script.cells.now l.code (l.first + l.count) (look_alike l.script.cells.now l.code l.count l.count l.first (seen l.initial.marks l.initial.queue l.tail)) l.marks l.queue l.end l.j l.left

abbrev pub decreases-loop-left : goal.decreases-loop-left
decreases-loop-left l = l.left
