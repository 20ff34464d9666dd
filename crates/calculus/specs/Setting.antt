-- What a script is judged and run in: its tables, the width of its numbers, and where malloc may take words.
use Rattle.std.specs.Prelude.{ℕ, Bool, true, false, List, [], eqb, length, get_or}
use Rattle.cells.specs.declared.Mode.{Mode}
use Rattle.cells.specs.declared.Mode.TheVariants.{Checked, Unchecked}
use Rattle.cells.specs.declared.Kind.{Kind}
use Rattle.cells.specs.declared.Kind.TheVariants.{Int, Word, Struct, Array}
use Rattle.cells.specs.declared.Cell.{Cell}

pub record Setting : Type 0 where
  -- the word type number of each field of each struct: the paper's map D
  pub structs : List (List ℕ)
  -- the word types by number; type 0 is int
  pub types : List Kind
  -- how many bits a number has: sums are taken modulo 2 ^ width
  pub width : ℕ
  -- the lowest and the highest address that malloc may use
  pub low : ℕ
  pub high : ℕ

-- a value together with its type: the paper's literal n^τ
abbrev pub cell : ℕ → Kind → Cell
cell n κ = record { value = n; kind = κ }

-- the word type with a number
abbrev pub kind_of : Setting → ℕ → Kind
kind_of S n = get_or S.types n Int

-- the fields of the struct with a number
abbrev pub fields_of : Setting → ℕ → List ℕ
fields_of S s = get_or S.structs s []

-- how many words a pointer's target covers: the paper's sizeof
unfoldable pub size : Setting → Kind → ℕ
size S Int = 0
size S (Word m n) = 1
size S (Struct m s) = length (fields_of S s)
size S (Array m k n) = k

-- the word type of the i-th word that a pointer's target covers: the paper's types(D, ω)
unfoldable pub word_kind : Setting → Kind → ℕ → Kind
word_kind S Int i = Int
word_kind S (Word m n) i = kind_of S n
word_kind S (Struct m s) i = kind_of S (get_or (fields_of S s) i 0)
word_kind S (Array m k n) i = kind_of S n

abbrev pub is_checked : Mode → Bool
is_checked Checked = true
is_checked Unchecked = false

-- a checked pointer, to whatever target
unfoldable pub checked_pointer : Kind → Bool
checked_pointer Int = false
checked_pointer (Word m n) = is_checked m
checked_pointer (Struct m s) = is_checked m
checked_pointer (Array m k n) = is_checked m

-- a checked pointer to an array of 0
unfoldable pub checked_empty : Kind → Bool
checked_empty Int = false
checked_empty (Word m n) = false
checked_empty (Struct m s) = false
checked_empty (Array Checked k n) = eqb k 0
checked_empty (Array Unchecked k n) = false
