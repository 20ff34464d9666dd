-- A row's numbers as they are looked at one by one.
use Rattle.std.proofs.Common.{◌≡◌, ℕ, Bool, List}
use Rattle.tables.specs.Heads.{task_in, inside_in, slot_in}
use Rattle.tables.specs.Rows.{head_at, datum_at}
use Rattle.tables.specs.declared.Task.{Task}
use Rattle.yields.specs.declared.Terms.{Terms}
use Rattle.stepper.specs.declared.StepState.{StepState}
use Rattle.stepper.specs.States.{Turned, looked}
use Rattle.stepper.specs.Stack.{task_turn}
use Rattle.stepper.specs.Turns.{row_turn}

-- What the task, with its state, its slot and its datum, comes to, the row does.
pub row_turned : (rows structs types ws stack bound : List ℕ) (T : Terms) (s : StepState) {s' : StepState} {head datum slot : ℕ} {inside : Bool}
    {task : Task} {x : Turned}
    → head ≡ head_at rows s.row → datum ≡ datum_at rows s.row → slot ≡ slot_in head → inside ≡ inside_in head → s' ≡ looked s inside
    → task ≡ task_in head → x ≡ task_turn structs types T ws stack bound s' task slot datum → x ≡ row_turn rows structs types T ws stack bound s
unfolding row_turn
row_turned rows structs types ws stack bound T from h d l i s t e = rw (← h, ← d, ← l, ← i, ← t, ← s) e
