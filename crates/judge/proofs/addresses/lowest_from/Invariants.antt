-- `judge::addresses::lowest_from` gives the first entry whose address is at least the one told. The loop's invariant: the search is the one
-- between `low` and `high`, with halvings enough left. The measure is how far they are apart. Assumes nothing.
use mathlib.Core.Path.{◌≡◌}
use mathlib.Core.List.{List}
use Prim.Native.Nat.{ℕ, ◌+◌, ◌-◌, ◌≤◌}
use Rattle.judge.specs.Addresses.{lowest_from}
use Rattle.judge.proofs.addresses.lowest_from.Given as goal

pub record Searching (cells : List ℕ) (address n low high : ℕ) : Type 0 where
  pub below : high ≤ n
  pub deep : ℕ
  pub enough : high ≤ low + deep
  pub same : lowest_from cells address n 0 n ≡ lowest_from cells address deep low high

abbrev pub invariant-loop-low : goal.invariant-loop-low
invariant-loop-low l = Searching l.cells l.address l.n l.low l.high

abbrev pub decreases-loop-low : goal.decreases-loop-low
decreases-loop-low l = l.high - l.low
