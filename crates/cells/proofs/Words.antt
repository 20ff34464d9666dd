-- The numbers of the word at an address and those after one is put there, opened as the code comes by them: at a word's place, and where
-- there is no word.
use Rattle.std.proofs.Common.{◌≡◌, ℕ, zero, suc, ◌+◌, ◌*◌, ◌/◌, ◌<◌, Bool, true, false, eqb, ltb, List, length, get_or, set, refl, arith, le-ltb, lt-ltb, Some, None}
use native.Mathlib.Decide.{dec_lt}
use lib.ListN.{get_or-eq_default}
use Rattle.choice.specs.Choice.{choose}
use Rattle.cells.specs.Code.{as_word, unpacked}
use Rattle.cells.specs.Heap.{undefined}
use Rattle.cells.specs.Lent.{word_at, lent_number, put_word}

module _ (ws : List ℕ) where
  -- the word at address i + 1 has its numbers at 2i and 2i + 1
  pub number_here : (a i j : ℕ) → a ≡ suc i → i < length ws / 2 → lent_number ws a j ≡ get_or ws (2 * i + j) 0
  unfolding lent_number
  number_here a i j e l = rw (e, lt-ltb i (length ws / 2) l)

  -- no word stands at address 0, nor past the last whole one
  pub number_none : (a j : ℕ) → (0 < a → length ws / 2 < a) → lent_number ws a j ≡ 0
  unfolding lent_number
  number_none zero j h = refl
  number_none (suc i) j h = let l : length ws / 2 < suc i = h (omega arith) in rw (le-ltb i (length ws / 2) (omega arith))

  pub put_here : (a i value code : ℕ) → a ≡ suc i → i < length ws / 2
      → put_word ws a value code ≡ set (set ws (2 * i) value) (2 * i + 1) code
  unfolding put_word
  put_here a i value code e l = rw (e, lt-ltb i (length ws / 2) l)

  pub put_none : (a value code : ℕ) → (0 < a → length ws / 2 < a) → put_word ws a value code ≡ ws
  unfolding put_word
  put_none zero value code h = refl
  put_none (suc i) value code h = let l : length ws / 2 < suc i = h (omega arith) in rw (le-ltb i (length ws / 2) (omega arith))

  -- a word is its two numbers
  pub word_numbers : (a : ℕ) → word_at ws a ≡ as_word (lent_number ws a 0) (lent_number ws a 1)
  unfolding word_at lent_number
  word_numbers zero = refl
  word_numbers (suc i) = go (dec_lt i (length ws / 2))
    where
      go : Dec (i < length ws / 2)
          → as_word (get_or ws (2 * i) 0) (get_or ws (2 * i + 1) 0)
          ≡ as_word (choose (ltb i (length ws / 2)) (λ _. get_or ws (2 * i + 0) 0) (λ _. 0))
          (choose (ltb i (length ws / 2)) (λ _. get_or ws (2 * i + 1) 0) (λ _. 0))
      go (yes l) = let e : 2 * i + 0 ≡ 2 * i = omega arith in rw (lt-ltb i (length ws / 2) l, e)
      go (no n) = rw (le-ltb i (length ws / 2) (omega arith), get_or-eq_default ws 0 {n = 2 * i + 1} (omega arith))

-- two numbers are an undefined word exactly if the code is 0
undefined_code : (value code : ℕ) → undefined (as_word value code) ≡ eqb code 0
undefined_code value code = go (eqb code 0)
  where
    go : (t : Bool) → undefined (choose t (λ _. None) (λ _. Some (record { value = value; kind = unpacked code }))) ≡ t
    go true = refl
    go false = refl

pub undefined_number : (ws : List ℕ) (a : ℕ) → undefined (word_at ws a) ≡ eqb (lent_number ws a 1) 0
undefined_number ws a = rw (word_numbers ws a) (undefined_code (lent_number ws a 0) (lent_number ws a 1))
