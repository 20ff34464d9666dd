-- What is said of a run's steps: "If a run ends with Value, its steps equal the count of nodes of codes 2 to 9; no run takes more."
use Rattle.std.specs.Prelude.{ℕ, ◌≤◌, ◌<◌, ◌≡◌}
use Rattle.cells.specs.declared.Cell.{Cell}
use Rattle.calculus.specs.Run.{Result}
use Rattle.calculus.specs.declared.End.TheVariants.{Value, More}

-- What a run of an expression of n operators says of its steps.
pub record Counts (n : ℕ) (r : Result) : Type 0 where
  -- no run takes more steps than the expression has operators
  pub few : r.outcome.steps ≤ n
  -- a run that ends with Value takes exactly as many
  pub all : (c : Cell) → r.outcome.end ≡ Value c → r.outcome.steps ≡ n
  -- a run that ends with More takes fewer
  pub left : r.outcome.end ≡ More → r.outcome.steps < n

-- What a run says of its limit.
pub record Allowed (limit : ℕ) (r : Result) : Type 0 where
  -- no run takes more steps than it may take
  pub most : r.outcome.steps ≤ limit
  -- More is given only if the limit's steps were taken
  pub spent : r.outcome.end ≡ More → r.outcome.steps ≡ limit
