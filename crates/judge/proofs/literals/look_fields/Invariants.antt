-- `judge::literals::look_fields` passes over a struct's words. The loop's invariant: the pass from the i-th word on gives the same.
-- Assumes nothing.
use mathlib.Core.Path.{◌≡◌}
use mathlib.Core.List.{List}
use Prim.Native.Nat.{ℕ, ◌-◌}
use Rattle.judge.specs.Marks.{seen}
use Rattle.judge.specs.Literals.{Looking, look_fields}
use Rattle.judge.proofs.literals.look_fields.Given as goal

pub record Passing (structs types cells : List ℕ) (code first count : ℕ) (start : Looking) (marks queue : List ℕ) (end i : ℕ) : Type 0 where
  pub same : start ≡ look_fields structs types cells code first (count - i) i (seen marks queue end)

abbrev pub invariant-loop-i : goal.invariant-loop-i
invariant-loop-i l =
    Passing l.script.structs.now l.script.types.now l.script.cells.now l.code l.first l.count (look_fields l.script.structs.now l.script.types.now l.script.cells.now l.code l.first l.count 0 (seen l.initial.marks l.initial.queue l.tail)) l.marks l.queue l.end l.i
