-- "the lowest run of k consecutive undefined addresses within" a range, over any test that says which addresses are free.
use Rattle.std.specs.Prelude.{ℕ, zero, suc, ◌+◌, ◌-◌, Bool, Option, Some, None}
use Rattle.choice.specs.Choice.{choose, all_from}

-- the first of `starts` addresses from a on at which k free ones begin
unfoldable pub first_run : (ℕ → Bool) → (k starts a : ℕ) → Option ℕ
first_run free k zero a = None
first_run free k (suc starts) a = choose (all_from free k a) (λ _. Some a) (λ _. first_run free k starts (suc a))

-- a run of k within low to high begins at low or later, and at high + 1 - k or earlier
abbrev pub lowest_in : (ℕ → Bool) → (k low high : ℕ) → Option ℕ
lowest_in free k low high = first_run free k ((high + 2) - (low + k)) low
