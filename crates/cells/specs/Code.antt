-- A kind as one number: the tag is the rest by 8 (0 undefined, 1 int, 2/3 checked/unchecked pointer to a word, 4/5 to a struct,
-- 6/7 to an array), above it the number (8 bits) and an array's count (16 bits).
use Rattle.cells.specs.declared.Cell.{Cell}
use Rattle.std.specs.Prelude.{ℕ, ◌+◌, ◌*◌, ◌/◌, ◌%◌, ◌<◌, ◌==◌, Option, Some, None}
use Rattle.choice.specs.Choice.{choose}
use Rattle.cells.specs.declared.Mode.{Mode}
use Rattle.cells.specs.declared.Mode.TheVariants.{Checked, Unchecked}
use Rattle.cells.specs.declared.Kind.{Kind}
use Rattle.cells.specs.declared.Kind.TheVariants.{Int, Word, Struct, Array}

-- "mode (0 checked, 1 unchecked)"
abbrev pub mode_number : Mode → ℕ
mode_number Checked = 0
mode_number Unchecked = 1

-- the mode with that number; any other number is read as unchecked
abbrev pub mode_of : ℕ → Mode
mode_of n = choose (n == 0) (λ _. Checked) (λ _. Unchecked)

unfoldable pub packed : Kind → ℕ
packed Int = 1
packed (Word m n) = 2 + mode_number m + 8 * n
packed (Struct m n) = 4 + mode_number m + 8 * n
packed (Array m k n) = 6 + mode_number m + 8 * n + 2048 * k

-- the number and the count in a code
abbrev pub number_in : ℕ → ℕ
number_in code = code / 8 % 256

abbrev pub count_in : ℕ → ℕ
count_in code = code / 2048 % 65536

-- the kind with that code; the tags 0 and 1 are int
unfoldable pub unpacked : ℕ → Kind
unpacked code =
    choose (code % 8 / 2 == 1) (λ _. Word (mode_of (code % 2)) (number_in code)) λ _.
    choose (code % 8 / 2 == 2) (λ _. Struct (mode_of (code % 2)) (number_in code)) λ _.
    choose (code % 8 / 2 == 3) (λ _. Array (mode_of (code % 2)) (count_in code) (number_in code)) (λ _. Int)

-- a word of the heap as two numbers: its value and its kind's code, both 0 if it is undefined
abbrev pub as_word : (value code : ℕ) → Option Cell
as_word value code = choose (code == 0) (λ _. None) (λ _. Some (record { value = value; kind = unpacked code }))

-- a kind whose numbers fit their fields of the code
pub data Small : Kind → Type 0 where
  small_int : Small Int
  small_word : {m : Mode} {n : ℕ} → n < 256 → Small (Word m n)
  small_struct : {m : Mode} {n : ℕ} → n < 256 → Small (Struct m n)
  small_array : {m : Mode} {k n : ℕ} → k < 65536 → n < 256 → Small (Array m k n)
