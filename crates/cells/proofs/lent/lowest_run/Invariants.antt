-- `cells::lent::lowest_run` gives the lowest run of undefined words. The loop's invariant is `Counting`: the `run` words before `a`
-- are free, and the search from `low` goes on at the first of them. Assumes nothing.
use Rattle.std.proofs.Common.{◌≡◌, ℕ, ◌-◌, ◌<◌, ◌≤◌, Bool, true}
use Rattle.choice.specs.Choice.{all_from}
use Rattle.cells.specs.Heap.{undefined}
use Rattle.cells.specs.Free.{lowest_in}
use Rattle.cells.specs.Lent.{word_at}
use Rattle.cells.proofs.lent.lowest_run.Given as goal

pub record Counting (free : ℕ → Bool) (k low last a run : ℕ) : Type 0 where
  pub few : run < k
  pub back : run ≤ a
  pub behind : all_from free run (a - run) ≡ true
  pub same : lowest_in free k low last ≡ lowest_in free k (a - run) last

abbrev pub invariant-loop-a : goal.invariant-loop-a
invariant-loop-a l = Counting (λ b. undefined (word_at l.heap b)) l.k l.low l.last l.a l.run
