-- The structs and the word types of a script in lent numbers: a struct has 17, its field count and then its fields' word type numbers; a word
-- type has its packed code. And what is read off a code without taking it apart.
use Rattle.std.specs.Prelude.{ℕ, ◌+◌, ◌*◌, ◌/◌, ◌%◌, ◌-◌, ◌<◌, ◌≡◌, Bool, List, eqb, length, get_or}
use Rattle.choice.specs.Choice.{choose}
use Rattle.cells.specs.Code.{packed, number_in, count_in, Small}
use Rattle.calculus.specs.Setting.{Setting, kind_of, fields_of}

-- the code of the word type with a number; past the end int's
abbrev pub type_code_at : (types : List ℕ) (n : ℕ) → ℕ
type_code_at types n = get_or types n 1

-- how many fields a struct has, and the word type number of one of them
abbrev pub field_count_at : (structs : List ℕ) (s : ℕ) → ℕ
field_count_at structs s = get_or structs (17 * s) 0

abbrev pub field_type_at : (structs : List ℕ) (s f : ℕ) → ℕ
field_type_at structs s f = get_or structs (17 * s + 1 + f) 0

-- which pointer a code is of: 1 to a word, 2 to a struct, 3 to an array; 0 is no pointer
abbrev pub code_tag : (code : ℕ) → ℕ
code_tag code = code % 8 / 2

-- a checked pointer's code is even, and a checked array pointer's leaves 6 by 8
abbrev pub code_checked : (code : ℕ) → Bool
code_checked code = eqb (code % 2) 0

abbrev pub code_checked_array : (code : ℕ) → Bool
code_checked_array code = eqb (code % 8) 6

-- how many words the target of the pointer with a code covers
unfoldable pub size_at : (structs : List ℕ) (code : ℕ) → ℕ
size_at structs code =
    choose (eqb (code_tag code) 1) (λ _. 1) λ _.
    choose (eqb (code_tag code) 2) (λ _. field_count_at structs (number_in code)) λ _.
    choose (eqb (code_tag code) 3) (λ _. count_in code) (λ _. 0)

-- the word type number of the i-th of them
unfoldable pub word_type_at : (structs : List ℕ) (code i : ℕ) → ℕ
word_type_at structs code i = choose (eqb (code_tag code) 2) (λ _. field_type_at structs (number_in code) i) (λ _. number_in code)

-- the code of a pointer to a word type, with the mode of the pointer that has a code; a number that doesn't fit is cut
unfoldable pub word_code : (code n : ℕ) → ℕ
word_code code n = 2 + code % 2 + 8 * (n % 256)

-- the code after a sum: "If that is a checked array pointer of n: .. n falls by the right side, not below 0."
unfoldable pub fallen_code : (code k : ℕ) → ℕ
fallen_code code k = choose (code_checked_array code) (λ _. code % 2048 + 2048 * (count_in code - k)) (λ _. code)

-- the lent numbers hold the structs and the word types of a setting
pub record HoldsSetting (S : Setting) (structs types : List ℕ) : Type 0 where
  pub codes : (n : ℕ) → type_code_at types n ≡ packed (kind_of S n)
  pub count : (s : ℕ) → field_count_at structs s ≡ length (fields_of S s)
  pub fields : (s i : ℕ) → i < length (fields_of S s) → field_type_at structs s i ≡ get_or (fields_of S s) i 0
  pub small : (n : ℕ) → Small (kind_of S n)
  pub bytes : (s i : ℕ) → get_or (fields_of S s) i 0 < 256
