-- What a node gives once its parts are values, by "Steps", on codes of kinds.
use Rattle.std.specs.Prelude.{ℕ, ◌+◌, ◌-◌, ◌*◌, ◌/◌, ◌%◌, ◌^◌, Bool, List, ◌==◌, nat_le, nat_lt, Option, Some, None}
use Rattle.choice.specs.Choice.{choose, both}
use Rattle.cells.specs.Code.{number_in, count_in, packed, unpacked}
use Rattle.cells.specs.Lent.{word_at, stored}
use Rattle.cells.specs.declared.Cell.{Cell}
use Rattle.calculus.specs.Setting.{cell}
use Rattle.calculus.specs.declared.Act.{Act}
use Rattle.calculus.specs.declared.Act.TheVariants.{Assign, Sum}
use Rattle.calculus.specs.declared.Halt.TheVariants.{Null, Bounds}
use Rattle.tables.specs.Kinds.{field_count_at, field_type_at, code_tag, code_checked, code_checked_array, word_code}
use Rattle.yields.specs.declared.ArrayCounts.{ArrayCounts}
use Rattle.yields.specs.declared.ArrayCounts.TheVariants.{Cut, Whole}
use Rattle.yields.specs.declared.Yield.{Yield}
use Rattle.yields.specs.declared.Yield.TheVariants.{Gives, Halts, Blocked}

-- an array's count in a code: the bits that a kind's count has, or all that stands above its number
abbrev pub count_by : ArrayCounts → (code : ℕ) → ℕ
count_by Cut code = count_in code
count_by Whole code = code / 2048

abbrev pub holds_gives : Option Cell → Yield
holds_gives None = Blocked
holds_gives (Some c) = Gives c.value (packed c.kind)

-- what the word at an address holds: what is lent behind the heap's words is not looked at
abbrev pub behind_words : (words a : ℕ) → Bool
behind_words words a = nat_lt words a

unfoldable pub word_gives : List ℕ → (words a : ℕ) → Yield
word_gives ws words a = choose (behind_words words a) (λ _. Blocked) (λ _. holds_gives (word_at ws a))

-- a read: "a checked pointer with v = 0 halts with Null; then a checked pointer to an array of 0 halts with Bounds"
unfoldable pub read_gives : ArrayCounts → List ℕ → (words v code : ℕ) → Yield
read_gives counts ws words v code =
    choose (both (code_checked code) (v == 0)) (λ _. Halts Null) λ _.
    choose (both (code_checked_array code) (count_by counts code == 0)) (λ _. Halts Bounds) (λ _. word_gives ws words v)

-- a field address, of the struct with a number
unfoldable pub struct_gives : (structs : List ℕ) (f v code s : ℕ) → Yield
struct_gives structs f v code s =
    choose (nat_le (field_count_at structs s) f) (λ _. Blocked) λ _.
    choose (both (code_checked code) (v == 0)) (λ _. Halts Null) (λ _. Gives ((v + f) % 2 ^ 32) (word_code code (field_type_at structs s f)))

unfoldable pub field_gives : (structs : List ℕ) (f v code : ℕ) → Yield
field_gives structs f v code = choose (code_tag code == 2) (λ _. struct_gives structs f v code (number_in code)) (λ _. Blocked)

-- a sum: the count of a checked array pointer falls by the number, not below 0
unfoldable pub fallen_by : ArrayCounts → (code k : ℕ) → ℕ
fallen_by counts code k = choose (code_checked_array code) (λ _. code % 2048 + 2048 * (count_by counts code - k)) (λ _. code)

unfoldable pub sum_gives : ArrayCounts → (v code k : ℕ) → Yield
sum_gives counts v code k =
    choose (both (code_checked_array code) (v == 0)) (λ _. Halts Null) (λ _. Gives ((v + k) % 2 ^ 32) (fallen_by counts code k))

-- what a node gives, and the heap that its step leaves
pub record Given : Type 0 where
  pub yield : Yield
  pub heap : List ℕ

abbrev pub given_on : Yield → (heap : List ℕ) → Given
given_on y ws = record { yield = y; heap = ws }

-- the word at address a becomes the value n, whose kind has code c; the value is also given
abbrev pub store_gives : List ℕ → (n c a : ℕ) → Given
store_gives ws n c a = given_on (Gives n c) (stored ws a (cell n (unpacked c)))

-- an assign of that value: where a read gives a value
abbrev pub assign_by : Yield → List ℕ → (n c a : ℕ) → Given
assign_by (Gives value code) ws n c a = store_gives ws n c a
assign_by (Halts h) ws n c a = given_on (Halts h) ws
assign_by Blocked ws n c a = given_on Blocked ws

unfoldable pub assign_gives : ArrayCounts → (words : ℕ) → List ℕ → (n c v code : ℕ) → Given
assign_gives counts words ws n c v code = assign_by (read_gives counts ws words v code) ws n c v

-- what is done with two values: v of the first part, with that code of its kind, and n of the second, whose kind has code c
abbrev pub act_gives : ArrayCounts → (words : ℕ) → List ℕ → Act → (n c v code : ℕ) → Given
act_gives counts words ws Assign n c v code = assign_gives counts words ws n c v code
act_gives counts words ws Sum n c v code = given_on (sum_gives counts v code n) ws
