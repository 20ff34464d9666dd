-- The head of a row as one number: what the row does (5 bits), whether its redex lies inside an unchecked block (1 bit), a slot (9 bits: a
-- literal's or a cast's word type number, how many lets out a variable's is), a row's number (13 bits: for an act the row behind its left
-- part's rows, for a let's end its Bind row), and the node's number in the image (12 bits).
use Rattle.std.specs.Prelude.{ℕ, ◌+◌, ◌*◌, ◌/◌, ◌%◌, Bool, true, false, List, [], ◌∷◌, eqb, get_or}
use Rattle.calculus.specs.declared.Act.{Act}
use Rattle.calculus.specs.declared.Act.TheVariants.{Assign, Sum}
use Rattle.tables.specs.declared.Task.{Task}
use Rattle.tables.specs.declared.Task.TheVariants.{Stop, Literal, Variable, Malloc, Unchecked, Cast, Read, Field, Acts, Bind, Unbind}

-- what a row does, in the order of the numbers from 0 on
abbrev pub tasks : List Task
tasks =
    Stop ∷ Literal ∷ Variable ∷ Malloc ∷ Unchecked ∷ Cast ∷ Read ∷ Field ∷ Acts Assign ∷ Acts Sum ∷ Bind ∷ Unbind ∷ []

abbrev pub act_number : Act → ℕ
act_number Assign = 8
act_number Sum = 9

abbrev pub task_number : Task → ℕ
task_number Stop = 0
task_number Literal = 1
task_number Variable = 2
task_number Malloc = 3
task_number Unchecked = 4
task_number Cast = 5
task_number Read = 6
task_number Field = 7
task_number (Acts o) = act_number o
task_number Bind = 10
task_number Unbind = 11

abbrev pub inside_bit : Bool → ℕ
inside_bit true = 1
inside_bit false = 0

-- the head with these fields; a number that doesn't fit its field is cut to it
unfoldable pub head_number : Task → (inside : Bool) → (slot left node : ℕ) → ℕ
head_number task inside slot left node =
    task_number task + 32 * inside_bit inside + 64 * (slot % 512) + 32768 * (left % 8192) + 268435456 * (node % 4096)

-- the task with a number; a number that no task has is Stop's, as 0 is
abbrev pub task_with : (number : ℕ) → Task
task_with number = get_or tasks number Stop

-- the fields of a head
unfoldable pub task_in : (head : ℕ) → Task
task_in head = task_with (head % 32)

unfoldable pub inside_in : (head : ℕ) → Bool
inside_in head = eqb (head / 32 % 2) 1

unfoldable pub slot_in : (head : ℕ) → ℕ
slot_in head = head / 64 % 512

unfoldable pub left_in : (head : ℕ) → ℕ
left_in head = head / 32768 % 8192

unfoldable pub node_in : (head : ℕ) → ℕ
node_in head = head / 268435456 % 4096
