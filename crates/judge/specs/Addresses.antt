-- Finding addresses in the cell table: a guess and the search by halves, and consecutive words by one comparison.
use Rattle.std.specs.Prelude.{ℕ, zero, suc, ◌+◌, ◌-◌, ◌/◌, Bool, List, Option, Some, None, eqb, ltb, length}
use Rattle.choice.specs.Choice.{choose, both}
use Rattle.judge.specs.Rows.{entry_at}

abbrev pub middle : ℕ → ℕ → ℕ
middle low high = low + (high - low) / 2

-- the first entry from low on, and below high, whose address is at least this one; at most `deep` halvings
unfoldable pub lowest_from : (cells : List ℕ) (address deep low high : ℕ) → ℕ
lowest_from cells address zero low high = low
lowest_from cells address (suc deep) low high =
    choose (ltb low high)
    (λ _. choose (ltb (entry_at cells (middle low high) 0) address)
    (λ _. lowest_from cells address deep (middle low high + 1) high)
    (λ _. lowest_from cells address deep low (middle low high)))
    (λ _. low)

-- the entry with this address, or where it would stand: in a heap without gaps the cell at address a is entry a - 1
unfoldable pub place : (cells : List ℕ) (n address : ℕ) → ℕ
place cells n address =
    choose (eqb (entry_at cells (address - 1) 0) address) (λ _. address - 1) (λ _. lowest_from cells address n 0 n)

-- entry j, of n, has this address, and the entry `more` further on has an address that much higher
unfoldable pub present : (cells : List ℕ) (n j address more : ℕ) → Bool
present cells n j address more =
    both (ltb more (n - j)) (both (eqb (entry_at cells j 0) address) (eqb (entry_at cells (j + more) 0 - address) more))

abbrev pub entries : List ℕ → ℕ
entries cells = length cells / 3

-- the entry of the first of the words from an address on, `more` behind the first, if they are all present
unfoldable pub covered : (cells : List ℕ) (address more : ℕ) → Option ℕ
covered cells address more =
    let j : ℕ = place cells (entries cells) address in
    choose (present cells (entries cells) j address more) (λ _. Some j) (λ _. None)
