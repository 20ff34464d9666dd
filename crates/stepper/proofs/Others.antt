-- The last arm of a match on a task, for all that have no arm of their own: what it is told, and what the definitions then say.
use Rattle.std.proofs.Common.{◌≡◌, ℕ, List, refl}
use Rattle.calculus.specs.declared.Act.{Act}
use Rattle.tables.specs.declared.Task.{Task}
use Rattle.tables.specs.declared.Task.TheVariants as task
use Rattle.yields.specs.declared.Terms.{Terms}
use Rattle.yields.specs.declared.Yield.TheVariants.{Blocked}
use Rattle.stepper.specs.declared.StepState.{StepState}
use Rattle.stepper.specs.States.{turned_to}
use Rattle.stepper.specs.Nodes.{one_gives}
use Rattle.stepper.specs.Stack.{applied, task_turn}

-- the tasks with an arm in each match: the task is none of these, as the last arm is told it; behind them, what the definition says at any other
pub record NotOnePart (t : Task) : Type 0 where
  pub not_unchecked : t ≡ task.Unchecked → ⊥
  pub not_cast : t ≡ task.Cast → ⊥
  pub not_read : t ≡ task.Read → ⊥
  pub not_field : t ≡ task.Field → ⊥

pub not_one_part_lem : (structs types : List ℕ) (words : ℕ) (ws : List ℕ) (v code : ℕ) (t : Task) (slot datum : ℕ) → NotOnePart t
    → one_gives structs types words ws v code t slot datum ≡ Blocked
unfolding one_gives
not_one_part_lem structs types words ws v code task.Stop slot datum k = refl
not_one_part_lem structs types words ws v code task.Literal slot datum k = refl
not_one_part_lem structs types words ws v code task.Variable slot datum k = refl
not_one_part_lem structs types words ws v code task.Malloc slot datum k = refl
not_one_part_lem structs types words ws v code task.Unchecked slot datum k = absurd (k.not_unchecked refl)
not_one_part_lem structs types words ws v code task.Cast slot datum k = absurd (k.not_cast refl)
not_one_part_lem structs types words ws v code task.Read slot datum k = absurd (k.not_read refl)
not_one_part_lem structs types words ws v code task.Field slot datum k = absurd (k.not_field refl)
not_one_part_lem structs types words ws v code (task.Acts o) slot datum k = refl
not_one_part_lem structs types words ws v code task.Bind slot datum k = refl
not_one_part_lem structs types words ws v code task.Unbind slot datum k = refl

pub record OnlyOnePart (t : Task) : Type 0 where
  pub not_literal : t ≡ task.Literal → ⊥
  pub not_variable : t ≡ task.Variable → ⊥
  pub not_malloc : t ≡ task.Malloc → ⊥
  pub not_acts : (o : Act) → t ≡ task.Acts o → ⊥
  pub not_bind : t ≡ task.Bind → ⊥
  pub not_unbind : t ≡ task.Unbind → ⊥
  pub not_stop : t ≡ task.Stop → ⊥

pub is_one_part : (structs types : List ℕ) (T : Terms) (ws stack bound : List ℕ) (s : StepState) (t : Task) (slot datum : ℕ) → OnlyOnePart t
    → task_turn structs types T ws stack bound s t slot datum ≡ turned_to (applied structs types T ws s t slot datum) ws stack bound
unfolding task_turn
is_one_part structs types T ws stack bound s task.Stop slot datum k = absurd (k.not_stop refl)
is_one_part structs types T ws stack bound s task.Literal slot datum k = absurd (k.not_literal refl)
is_one_part structs types T ws stack bound s task.Variable slot datum k = absurd (k.not_variable refl)
is_one_part structs types T ws stack bound s task.Malloc slot datum k = absurd (k.not_malloc refl)
is_one_part structs types T ws stack bound s task.Unchecked slot datum k = refl
is_one_part structs types T ws stack bound s task.Cast slot datum k = refl
is_one_part structs types T ws stack bound s task.Read slot datum k = refl
is_one_part structs types T ws stack bound s task.Field slot datum k = refl
is_one_part structs types T ws stack bound s (task.Acts o) slot datum k = absurd (k.not_acts o refl)
is_one_part structs types T ws stack bound s task.Bind slot datum k = absurd (k.not_bind refl)
is_one_part structs types T ws stack bound s task.Unbind slot datum k = absurd (k.not_unbind refl)
