-- A heap in lent numbers: word a has its value at 2(a-1) and its kind's code at 2(a-1)+1.
use Rattle.std.specs.Prelude.{ℕ, zero, suc, ◌+◌, ◌*◌, ◌/◌, min, List, [], ◌∷◌, ◌++◌, length, drop, set, replicate, nat_lt, slice_index, slice_set, Option, Some, None}
use Rattle.choice.specs.Choice.{choose}
use Rattle.cells.specs.Code.{packed, as_word}
use Rattle.cells.specs.Heap.{Heap, undefined}
use Rattle.cells.specs.Free.{lowest_in}
use Rattle.cells.specs.declared.Cell.{Cell}

-- the whole words that lent numbers hold: an odd last number is none
abbrev pub whole_words : List ℕ → ℕ
whole_words ws = length ws / 2

-- "W from 0 to 4,096 (a longer lent heap is used for its first 4,096 words, the rest never changing)"
abbrev pub heap_words : List ℕ → ℕ
heap_words ws = min (whole_words ws) 4096

-- the word at an address
unfoldable pub word_at : List ℕ → ℕ → Option Cell
word_at ws zero = None
word_at ws (suc i) = as_word (slice_index ws (2 * i)) (slice_index ws (2 * i + 1))

-- number j of the word at an address, its value or its kind's code: 0 where there is no such word
unfoldable pub lent_number : List ℕ → (a j : ℕ) → ℕ
lent_number ws zero j = 0
lent_number ws (suc i) j = choose (nat_lt i (whole_words ws)) (λ _. slice_index ws (2 * i + j)) (λ _. 0)

-- the numbers after the word at an address was made to hold the value of the kind with that code; no word, no change
unfoldable pub put_word : List ℕ → (a value code : ℕ) → List ℕ
put_word ws zero value code = ws
put_word ws (suc i) value code =
    choose (nat_lt i (whole_words ws)) (λ _. set (slice_set ws (2 * i) value) (2 * i + 1) code) (λ _. ws)

-- the numbers after it was made to hold the cell
unfoldable pub stored : List ℕ → ℕ → Cell → List ℕ
stored ws a c = put_word ws a c.value (packed c.kind)

-- the numbers after the first `words` words, or all if there are fewer, were made undefined
abbrev pub cleared : List ℕ → ℕ → List ℕ
cleared ws words = replicate (2 * min words (whole_words ws)) 0 ++ drop (2 * min words (whole_words ws)) ws

-- the lowest run of k undefined words within low to high and within the lent numbers
abbrev pub lowest_run : List ℕ → (k low high : ℕ) → Option ℕ
lowest_run ws k low high = lowest_in (λ a. undefined (word_at ws a)) k low (min high (whole_words ws))

-- a word's two numbers: both 0 if it is undefined
abbrev pub value_in : Option Cell → ℕ
value_in None = 0
value_in (Some c) = c.value

abbrev pub code_in : Option Cell → ℕ
code_in None = 0
code_in (Some c) = packed c.kind

-- a heap's words as numbers
unfoldable pub numbers_of : Heap → List ℕ
numbers_of [] = []
numbers_of (w ∷ H) = value_in w ∷ code_in w ∷ numbers_of H

-- lent numbers whose first words are those of the heap, the rest as it was
abbrev pub lent : Heap → List ℕ → List ℕ
lent H ws = numbers_of H ++ drop (2 * length H) ws
