-- malloc over the lent numbers: whether there is room, and its step.
use Rattle.std.specs.Prelude.{ℕ, ◌/◌, List, ◌==◌, Option, Some, None}
use Rattle.choice.specs.Choice.{choose}
use Rattle.cells.specs.Lent.{lowest_run}
use Rattle.calculus.specs.declared.Halt.TheVariants as halts
use Rattle.cells.specs.Code.{number_in}
use Rattle.tables.specs.Kinds.{code_tag, field_count_at}
use Rattle.yields.specs.declared.Terms.{Terms}
use Rattle.yields.specs.Malloc.{zero_words, sought_from}
use Rattle.machine.specs.declared.State.{State}
use Rattle.machine.specs.States.{Leaving, leaving, word_written, stuck, halt, step_within, with_value, with_hint}

-- how many words the target of the pointer with that code covers; an array's count is all that stands above its number
unfoldable pub size_in : List ℕ → (code : ℕ) → ℕ
size_in structs code =
    choose (code_tag code == 0) (λ _. 0) λ _.
    choose (code_tag code == 1) (λ _. 1) λ _.
    choose (code_tag code == 2) (λ _. field_count_at structs (number_in code)) (λ _. code / 2048)

-- the run found is taken, a step later, and remembered
unfoldable pub room_taken : (structs types : List ℕ) (limit : ℕ) → List ℕ → State → (code size a : ℕ) → Leaving
room_taken structs types limit ws s code size a =
    word_written (step_within limit (with_hint (with_value s a code) size a)) ws (zero_words structs types code size a 0 ws)

abbrev pub room_found : Option ℕ → (structs types : List ℕ) (limit : ℕ) → List ℕ → State → (code size : ℕ) → Leaving
room_found (Some a) structs types limit ws s code size = room_taken structs types limit ws s code size a
room_found None structs types limit ws s code size = leaving (halt limit s halts.Room) ws

-- the lowest run of words that is long enough for the target of the pointer with that code
unfoldable pub room_for : (structs types : List ℕ) → Terms → List ℕ → State → (code size : ℕ) → Leaving
room_for structs types T ws s code size =
    choose (size == 0) (λ _. leaving (stuck s) ws)
    (λ _. room_found (lowest_run ws size (sought_from s.hint size T.low) T.high) structs types T.limit ws s code size)

abbrev pub room_at : (structs types : List ℕ) → Terms → List ℕ → State → (code : ℕ) → Leaving
room_at structs types T ws s code = room_for structs types T ws s code (size_in structs code)
