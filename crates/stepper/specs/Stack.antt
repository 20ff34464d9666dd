-- What a row does with the stack, the bound values and the heap in lent numbers. Values below the top stand on the stack as words in a heap,
-- the bottom one at address 1, and bound values in their list likewise, the outermost at address 1.
use Rattle.std.specs.Prelude.{ℕ, ◌+◌, ◌-◌, List, ◌==◌, nat_le, nat_lt}
use Rattle.choice.specs.Choice.{choose}
use Rattle.cells.specs.Lent.{whole_words, lent_number, put_word}
use Rattle.calculus.specs.declared.Act.{Act}
use Rattle.tables.specs.declared.Task.{Task}
use Rattle.tables.specs.declared.Task.TheVariants as task
use Rattle.tables.specs.Kinds.{type_code_at}
use Rattle.stepper.specs.declared.StepState.{StepState}
use Rattle.yields.specs.declared.Terms.{Terms}
use Rattle.stepper.specs.declared.StepTurn.{StepTurn}
use Rattle.stepper.specs.declared.StepTurn.TheVariants.{Goes, Steps}
use Rattle.stepper.specs.States.{Changed, PlacedOn, Turned, changed, placed_on, turned_to, topped, resized, counting, ends_more, ends_stuck, ends_value}
use Rattle.stepper.specs.States.{settled_by, settled_on}
use Rattle.yields.specs.declared.ArrayCounts.TheVariants.{Cut}
use Rattle.yields.specs.Yields.{act_gives}
use Rattle.stepper.specs.Nodes.{one_gives}
use Rattle.stepper.specs.Malloc.{room_gives}

-- a value on top, and the one that was there below it: where there is no word for it the machine is stuck
unfoldable pub pushed : (stack : List ℕ) → StepState → (value code : ℕ) → Changed
pushed stack s value code =
    choose (nat_lt (whole_words stack) s.height) (λ _. changed (ends_stuck s) stack)
    (λ _. changed (Goes (topped (resized s (s.height + 1) s.lets) value code)) (put_word stack s.height s.value s.code))

-- the value of a variable, int 0 where it is bound nowhere
unfoldable pub fetched : (stack bound : List ℕ) → StepState → (out : ℕ) → Changed
fetched stack bound s out =
    choose (nat_le s.lets out) (λ _. pushed stack s 0 1)
    (λ _. pushed stack s (lent_number bound (s.lets - out) 0) (lent_number bound (s.lets - out) 1))

-- a malloc: its pointer comes on top
abbrev pub beside_stack : (stack : List ℕ) → Changed → PlacedOn
beside_stack stack m = placed_on m.turn m.table stack

unfoldable pub allotted : (structs types : List ℕ) → Terms → (ws stack : List ℕ) → StepState → (code : ℕ) → PlacedOn
allotted structs types T ws stack s code =
    choose (nat_lt (whole_words stack) s.height) (λ _. placed_on (ends_stuck s) ws stack)
    (λ _. beside_stack (put_word stack s.height s.value s.code) (room_gives structs types T ws (resized s (s.height + 1) s.lets) code))

-- a node with one part, and one with two
unfoldable pub applied : (structs types : List ℕ) → Terms → List ℕ → StepState → Task → (slot datum : ℕ) → StepTurn
applied structs types T ws s t slot datum =
    choose (s.height == 0) (λ _. ends_stuck s)
    (λ _. settled_by T.limit s (one_gives structs types T.words ws s.value s.code t slot datum))

abbrev pub below_top : StepState → StepState
below_top s = resized s (s.height - 1) s.lets

unfoldable pub joined_row : Terms → (ws stack : List ℕ) → StepState → Act → Changed
joined_row T ws stack s o =
    choose (nat_lt s.height 2) (λ _. changed (ends_stuck s) ws)
    (λ _. settled_on T.limit (below_top s) ws
    (act_gives Cut T.words ws o s.value s.code (lent_number stack (s.height - 1) 0) (lent_number stack (s.height - 1) 1)))

-- the value on top is bound, a step; the innermost bound value is forgotten; the value on top is the whole expression's
unfoldable pub bound_next : (limit : ℕ) (stack bound : List ℕ) → StepState → Changed
bound_next limit stack bound s =
    choose (s.height == 0) (λ _. changed (ends_stuck s) bound) λ _.
    choose (nat_le (whole_words bound) s.lets) (λ _. changed (ends_stuck s) bound) λ _.
    choose (nat_le limit s.steps) (λ _. changed (ends_more s) bound)
    (λ _. changed
    (Steps (counting (topped (resized s (s.height - 1) (s.lets + 1)) (lent_number stack (s.height - 1) 0) (lent_number stack (s.height - 1) 1))))
    (put_word bound (s.lets + 1) s.value s.code))

unfoldable pub unbound_next : StepState → StepTurn
unbound_next s =
    choose (s.lets == 0) (λ _. ends_stuck s) (λ _. Goes (topped (resized s s.height (s.lets - 1)) s.value s.code))

unfoldable pub stopped_at : StepState → StepTurn
stopped_at s = choose (s.height == 0) (λ _. ends_stuck s) (λ _. ends_value s)

-- what a row leaves as it was stays
abbrev pub on_stack_of : (ws bound : List ℕ) → Changed → Turned
on_stack_of ws bound m = turned_to m.turn ws m.table bound

abbrev pub on_heap_of : (stack bound : List ℕ) → Changed → Turned
on_heap_of stack bound m = turned_to m.turn m.table stack bound

abbrev pub on_bound_of : (ws stack : List ℕ) → Changed → Turned
on_bound_of ws stack m = turned_to m.turn ws stack m.table

abbrev pub beside_bound : (bound : List ℕ) → PlacedOn → Turned
beside_bound bound m = turned_to m.turn m.heap m.stack bound

-- a row does its task, with its slot and its datum
unfoldable pub task_turn : (structs types : List ℕ) → Terms → (ws stack bound : List ℕ) → StepState → Task → (slot datum : ℕ) → Turned
task_turn structs types T ws stack bound s task.Stop slot datum = turned_to (stopped_at s) ws stack bound
task_turn structs types T ws stack bound s task.Literal slot datum = on_stack_of ws bound (pushed stack s datum (type_code_at types slot))
task_turn structs types T ws stack bound s task.Variable slot datum = on_stack_of ws bound (fetched stack bound s slot)
task_turn structs types T ws stack bound s task.Malloc slot datum = beside_bound bound (allotted structs types T ws stack s datum)
task_turn structs types T ws stack bound s task.Unchecked slot datum = turned_to (applied structs types T ws s task.Unchecked slot datum) ws stack bound
task_turn structs types T ws stack bound s task.Cast slot datum = turned_to (applied structs types T ws s task.Cast slot datum) ws stack bound
task_turn structs types T ws stack bound s task.Read slot datum = turned_to (applied structs types T ws s task.Read slot datum) ws stack bound
task_turn structs types T ws stack bound s task.Field slot datum = turned_to (applied structs types T ws s task.Field slot datum) ws stack bound
task_turn structs types T ws stack bound s (task.Acts o) slot datum = on_heap_of stack bound (joined_row T ws stack s o)
task_turn structs types T ws stack bound s task.Bind slot datum = on_bound_of ws stack (bound_next T.limit stack bound s)
task_turn structs types T ws stack bound s task.Unbind slot datum = turned_to (unbound_next s) ws stack bound
