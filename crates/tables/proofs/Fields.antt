-- The fields of a head come back from it: what the row does and whether it lies inside an unchecked block always, the numbers if they fit.
use Prim.Native.Nat.{ℕ, zero, suc, ◌+◌, ◌*◌, ◌/◌, ◌%◌, ◌≤◌, ◌<◌}
use mathlib.Core.Path.{◌≡◌, refl}
use mathlib.Core.Bool.{Bool, true, false}
use native.Mathlib.Omega.{arith}
use lib.Dec.{eqb}
use lib.ListN.{length, get_or, get_or-eq_default}
use Rattle.calculus.specs.declared.Act.TheVariants.{Assign, Sum}
use Rattle.tables.specs.Heads.{tasks, task_number, inside_bit, head_number, task_with, task_in, inside_in, slot_in, left_in, node_in}
use Rattle.tables.specs.declared.Task.{Task}
use Rattle.tables.specs.declared.Task.TheVariants.{Stop, Literal, Variable, Malloc, Unchecked, Cast, Read, Field, Acts, Bind, Unbind}

-- ---- the numbers of tasks
-- each task stands at its number
task_back : (t : Task) → get_or tasks (task_number t) Stop ≡ t
task_back Stop = refl
task_back Literal = refl
task_back Variable = refl
task_back Malloc = refl
task_back Unchecked = refl
task_back Cast = refl
task_back Read = refl
task_back Field = refl
task_back (Acts Assign) = refl
task_back (Acts Sum) = refl
task_back Bind = refl
task_back Unbind = refl

pub task_below : (t : Task) → task_number t < 32
task_below Stop = omega arith
task_below Literal = omega arith
task_below Variable = omega arith
task_below Malloc = omega arith
task_below Unchecked = omega arith
task_below Cast = omega arith
task_below Read = omega arith
task_below Field = omega arith
task_below (Acts Assign) = omega arith
task_below (Acts Sum) = omega arith
task_below Bind = omega arith
task_below Unbind = omega arith

bit_below : (b : Bool) → inside_bit b < 2
bit_below true = omega arith
bit_below false = omega arith

bit_back : (b : Bool) → eqb (inside_bit b) 1 ≡ b
bit_back true = refl
bit_back false = refl

-- the number is none of those below k, told one after another, as the last arm of a match has it
abbrev pub NoneBelow : (number k : ℕ) → Type 0
NoneBelow number zero = Unit {0}
NoneBelow number (suc k) = NoneBelow number k × (number ≡ k → ⊥)

none_below : (number k : ℕ) → NoneBelow number k → k ≤ number
none_below number zero o = omega arith
none_below number (suc k) (o, n) = let l : k ≤ number = none_below number k o in omega (arith, l, n)

-- a number that no task has
pub no_task : (number : ℕ) → NoneBelow number (length tasks) → task_with number ≡ Stop
no_task number o = get_or-eq_default tasks Stop {n = number} (none_below number (length tasks) o)

-- ---- a sum of five numbers that fit
record Apart (head task inside slot left node : ℕ) : Type 0 where
  task_is : head % 32 ≡ task
  inside_is : head / 32 % 2 ≡ inside
  slot_is : head / 64 % 512 ≡ slot
  left_is : head / 32768 % 8192 ≡ left
  node_is : head / 268435456 % 4096 ≡ node

apart : (head task inside slot left node : ℕ)
    → head ≡ task + 32 * inside + 64 * slot + 32768 * left + 268435456 * node
    → task < 32 → inside < 2 → slot < 512 → left < 8192 → node < 4096 → Apart head task inside slot left node
apart head task inside slot left node e t i s l n = omega arith

module _ (t : Task) (b : Bool) (slot left node : ℕ) where
  made_apart : Apart (head_number t b slot left node) (task_number t) (inside_bit b) (slot % 512) (left % 8192) (node % 4096)
  unfolding head_number
  made_apart = apart _ _ _ _ _ _ refl (task_below t) (bit_below b) (omega arith) (omega arith) (omega arith)

  pub task_head : task_in (head_number t b slot left node) ≡ t
  unfolding task_in
  task_head = rw made_apart.task_is (task_back t)

  pub inside_head : inside_in (head_number t b slot left node) ≡ b
  unfolding inside_in
  inside_head = rw made_apart.inside_is (bit_back b)

  pub slot_head : slot < 512 → slot_in (head_number t b slot left node) ≡ slot
  unfolding slot_in
  slot_head l = rw made_apart.slot_is (omega arith)

  pub left_head : left < 8192 → left_in (head_number t b slot left node) ≡ left
  unfolding left_in
  left_head l = rw made_apart.left_is (omega arith)

  pub node_head : node < 4096 → node_in (head_number t b slot left node) ≡ node
  unfolding node_in
  node_head l = rw made_apart.node_is (omega arith)
