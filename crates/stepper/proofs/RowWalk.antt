-- What one row comes to, whatever the rows are: it goes on to the next row with the steps kept, or takes a step that the limit allows, or
-- ends the run.
use Rattle.std.proofs.Common.{◌≡◌, ℕ, ◌+◌, ◌-◌, ◌<◌, ◌≤◌, Bool, true, false, nat_le, nat_lt, ◌==◌}
use Rattle.std.proofs.Common.{Option, Some, None, List, refl, arith, le-leb}
use native.Mathlib.Decide.{dec_le}
use borrow.Author.Tests.{lt-leb}
use Rattle.cells.specs.Lent.{whole_words, lent_number, lowest_run}
use Rattle.calculus.specs.declared.Act.{Act}
use Rattle.calculus.specs.declared.Halt.{Halt}
use Rattle.calculus.specs.declared.Halt.TheVariants as halts
use Rattle.calculus.specs.declared.Outcome.{Outcome}
use Rattle.tables.specs.Heads.{task_in, inside_in, slot_in}
use Rattle.tables.specs.Kinds.{type_code_at, size_at}
use Rattle.tables.specs.Rows.{head_at, datum_at}
use Rattle.tables.specs.declared.Task.{Task}
use Rattle.tables.specs.declared.Task.TheVariants as task
use Rattle.yields.specs.declared.Terms.{Terms}
use Rattle.yields.specs.declared.Yield.{Yield}
use Rattle.yields.specs.declared.Yield.TheVariants.{Gives, Halts, Blocked}
use Rattle.yields.specs.declared.ArrayCounts.TheVariants.{Cut}
use Rattle.yields.specs.Malloc.{one_more, sought_from}
use Rattle.yields.specs.Yields.{act_gives}
use Rattle.stepper.specs.declared.StepState.{StepState}
use Rattle.stepper.specs.declared.StepTurn.{StepTurn}
use Rattle.stepper.specs.declared.StepTurn.TheVariants.{Goes, Steps, Ends}
use Rattle.stepper.specs.States.{resized, looked, ends_halt, settled_by, settled_on}
use Rattle.stepper.specs.Nodes.{one_gives}
use Rattle.stepper.specs.Malloc.{room_takes, room_by, room_sized}
use Rattle.stepper.specs.Stack.{pushed, fetched, allotted, applied, below_top, joined_row, bound_next, unbound_next, stopped_at, task_turn}
use Rattle.stepper.specs.Turns.{row_turn}

-- what row number `row` comes to after n steps
pub data Comes (limit row n : ℕ) : StepTurn → Type 0 where
  comes_on : {s : StepState} → s.row ≡ one_more row → s.steps ≡ n → Comes limit row n (Goes s)
  comes_step : {s : StepState} → n < limit → s.steps ≡ one_more n → Comes limit row n (Steps s)
  comes_end : {o : Outcome} → Comes limit row n (Ends o)

by : {A : Type 0} (b : Bool) → (b ≡ true → A) → (b ≡ false → A) → A
by true p q = p refl
by false p q = q refl

within : {A : Type 0} (limit n : ℕ) → (nat_le limit n ≡ true → A) → (nat_le limit n ≡ false → n < limit → A) → A
within {A} limit n p q = go (dec_le limit n)
  where
    go : Dec (limit ≤ n) → A
    go (yes l) = p (le-leb limit n l)
    go (no m) = q (lt-leb limit n (omega arith)) (omega arith)

module _ (limit : ℕ) (s : StepState) where
  on_halt : (h : Halt) → Comes limit s.row s.steps (ends_halt limit s h)
  on_halt h = by (nat_le limit s.steps) (λ e. rw e comes_end) (λ e. rw e comes_end)

  on_settled : (y : Yield) → Comes limit s.row s.steps (settled_by limit s y)
  on_settled (Gives v c) = within limit s.steps (λ e. rw e comes_end) (λ e l. rw e (comes_step l refl))
  on_settled (Halts h) = on_halt h
  on_settled Blocked = comes_end

  on_stop : Comes limit s.row s.steps (stopped_at s)
  unfolding stopped_at
  on_stop = by (s.height == 0) (λ e. rw e comes_end) (λ e. rw e comes_end)

  on_pushed : (stack : List ℕ) (value code : ℕ) → Comes limit s.row s.steps (pushed stack s value code).turn
  unfolding pushed
  on_pushed stack value code = by (nat_lt (whole_words stack) s.height) (λ e. rw e comes_end) (λ e. rw e (comes_on refl refl))

  on_fetched : (stack bound : List ℕ) (out : ℕ) → Comes limit s.row s.steps (fetched stack bound s out).turn
  unfolding fetched
  on_fetched stack bound out =
      by (nat_le s.lets out) (λ e. rw e (on_pushed stack 0 1))
      (λ e. rw e (on_pushed stack (lent_number bound (s.lets - out) 0) (lent_number bound (s.lets - out) 1)))

  on_bound : (stack bound : List ℕ) → Comes limit s.row s.steps (bound_next limit stack bound s).turn
  unfolding bound_next
  on_bound stack bound =
      by (s.height == 0) (λ e. rw e comes_end)
      (λ e. rw e
      (by (nat_le (whole_words bound) s.lets) (λ f. rw f comes_end)
      (λ f. rw f (within limit s.steps (λ g. rw g comes_end) (λ g l. rw g (comes_step l refl))))))

  on_unbound : Comes limit s.row s.steps (unbound_next s)
  unfolding unbound_next
  on_unbound = by (s.lets == 0) (λ e. rw e comes_end) (λ e. rw e (comes_on refl refl))

module _ (structs types : List ℕ) (T : Terms) (ws : List ℕ) (s : StepState) where
  on_run : (r : Option ℕ) (code size : ℕ) → Comes T.limit s.row s.steps (room_by r structs types T.limit ws s code size).turn
  unfolding room_takes
  on_run (Some a) code size = within T.limit s.steps (λ e. rw e comes_end) (λ e l. rw e (comes_step l refl))
  on_run None code size = on_halt T.limit s halts.Room

  on_room : (code size : ℕ) → Comes T.limit s.row s.steps (room_sized structs types T ws s code size).turn
  unfolding room_sized
  on_room code size =
      by (size == 0) (λ e. rw e comes_end)
      (λ e. rw e (on_run (lowest_run ws size (sought_from s.hint size T.low) T.high) code size))

module _ (structs types : List ℕ) (T : Terms) (ws stack bound : List ℕ) (s : StepState) where
  on_allotted : (code : ℕ) → Comes T.limit s.row s.steps (allotted structs types T ws stack s code).turn
  unfolding allotted
  on_allotted code =
      by (nat_lt (whole_words stack) s.height) (λ e. rw e comes_end)
      (λ e. rw e (on_room structs types T ws (resized s (s.height + 1) s.lets) code (size_at structs code)))

  on_applied : (t : Task) (slot datum : ℕ) → Comes T.limit s.row s.steps (applied structs types T ws s t slot datum)
  unfolding applied
  on_applied t slot datum =
      by (s.height == 0) (λ e. rw e comes_end)
      (λ e. rw e (on_settled T.limit s (one_gives structs types T.words ws s.value s.code t slot datum)))

  on_joined : (o : Act) → Comes T.limit s.row s.steps (joined_row T ws stack s o).turn
  unfolding joined_row settled_on
  on_joined o =
      by (nat_lt s.height 2) (λ e. rw e comes_end)
      (λ e. rw e
      (on_settled T.limit (below_top s)
      (act_gives Cut T.words ws o s.value s.code (lent_number stack (s.height - 1) 0) (lent_number stack (s.height - 1) 1)).yield))

  on_task : (t : Task) (slot datum : ℕ) → Comes T.limit s.row s.steps (task_turn structs types T ws stack bound s t slot datum).turn
  unfolding task_turn
  on_task task.Stop slot datum = on_stop T.limit s
  on_task task.Literal slot datum = on_pushed T.limit s stack datum (type_code_at types slot)
  on_task task.Variable slot datum = on_fetched T.limit s stack bound slot
  on_task task.Malloc slot datum = on_allotted datum
  on_task task.Unchecked slot datum = on_applied task.Unchecked slot datum
  on_task task.Cast slot datum = on_applied task.Cast slot datum
  on_task task.Read slot datum = on_applied task.Read slot datum
  on_task task.Field slot datum = on_applied task.Field slot datum
  on_task (task.Acts o) slot datum = on_joined o
  on_task task.Bind slot datum = on_bound T.limit s stack bound
  on_task task.Unbind slot datum = on_unbound T.limit s

pub row_comes : (rows structs types : List ℕ) (T : Terms) (ws stack bound : List ℕ) (s : StepState)
    → Comes T.limit s.row s.steps (row_turn rows structs types T ws stack bound s).turn
unfolding row_turn
row_comes rows structs types T ws stack bound s =
    on_task structs types T ws stack bound (looked s (inside_in (head_at rows s.row))) (task_in (head_at rows s.row))
    (slot_in (head_at rows s.row))
    (datum_at rows s.row)
