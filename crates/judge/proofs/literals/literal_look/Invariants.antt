-- `judge::literals::literal_look` looks at a literal and at all that is reached from it. The loop's invariant: the queue ends within its numbers,
-- and the look that is next, with what is left to look at from `head` on, gives the same. The measure is how far `head` is from the
-- queue's end. Assumes nothing.
use mathlib.Core.Path.{◌≡◌}
use mathlib.Core.List.{List}
use Prim.Native.Nat.{ℕ, ◌+◌, ◌-◌, ◌≤◌}
use lib.ListN.{length}
use Rattle.judge.specs.Marks.{seen}
use Rattle.judge.specs.Literals.{Looking, then_look, look_at, drain, literal_look}
use Rattle.judge.proofs.literals.literal_look.Given as goal

pub record Draining (structs types cells : List ℕ) (start : Looking) (marks queue : List ℕ) (head end held kind : ℕ) : Type 0 where
  pub ends : end ≤ length queue
  pub deep : ℕ
  pub enough : length queue ≤ head + deep
  pub same : start ≡ then_look (look_at structs types cells held kind (seen marks queue end)) (drain structs types cells deep head)

abbrev pub invariant-loop-end : goal.invariant-loop-end
invariant-loop-end l =
    Draining l.script.structs.now l.script.types.now l.script.cells.now (literal_look l.script.structs.now l.script.types.now l.script.cells.now l.value l.code (seen l.initial.marks l.initial.queue l.tail)) l.marks l.queue l.head l.end l.held l.kind

abbrev pub decreases-loop-end : goal.decreases-loop-end
decreases-loop-end l = length l.initial.queue - l.head
