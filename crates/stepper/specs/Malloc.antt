-- malloc over the lent numbers: whether there is room, and its step.
use Rattle.std.specs.Prelude.{ℕ, List, ◌==◌, nat_le, Option, Some, None}
use Rattle.choice.specs.Choice.{choose}
use Rattle.cells.specs.Lent.{lowest_run}
use Rattle.calculus.specs.declared.Halt.TheVariants as halts
use Rattle.tables.specs.Kinds.{size_at}
use Rattle.yields.specs.declared.Terms.{Terms}
use Rattle.yields.specs.Malloc.{zero_words, sought_from}
use Rattle.stepper.specs.declared.StepState.{StepState}
use Rattle.stepper.specs.declared.StepTurn.TheVariants.{Steps}
use Rattle.stepper.specs.States.{Changed, changed, ends_more, ends_stuck, ends_halt, counting, topped, hinted}

-- the run found is taken, a step later, and remembered
unfoldable pub room_takes : (structs types : List ℕ) (limit : ℕ) → List ℕ → StepState → (code size a : ℕ) → Changed
room_takes structs types limit ws s code size a =
    choose (nat_le limit s.steps) (λ _. changed (ends_more s) ws)
    (λ _. changed (Steps (counting (hinted (topped s a code) size a))) (zero_words structs types code size a 0 ws))

abbrev pub room_by : Option ℕ → (structs types : List ℕ) (limit : ℕ) → List ℕ → StepState → (code size : ℕ) → Changed
room_by (Some a) structs types limit ws s code size = room_takes structs types limit ws s code size a
room_by None structs types limit ws s code size = changed (ends_halt limit s halts.Room) ws

-- the lowest run of words that is long enough for the target of the pointer with that code
unfoldable pub room_sized : (structs types : List ℕ) → Terms → List ℕ → StepState → (code size : ℕ) → Changed
room_sized structs types T ws s code size =
    choose (size == 0) (λ _. changed (ends_stuck s) ws)
    (λ _. room_by (lowest_run ws size (sought_from s.hint size T.low) T.high) structs types T.limit ws s code size)

abbrev pub room_gives : (structs types : List ℕ) → Terms → List ℕ → StepState → (code : ℕ) → Changed
room_gives structs types T ws s code = room_sized structs types T ws s code (size_at structs code)
