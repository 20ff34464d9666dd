-- The state after a row, how a run ends, and what a row leaves of the lent memory.
use Rattle.std.specs.Prelude.{ℕ, Bool, List, ◌==◌, nat_le}
use Rattle.choice.specs.Choice.{choose}
use Rattle.cells.specs.Code.{unpacked}
use Rattle.calculus.specs.Setting.{cell}
use Rattle.calculus.specs.Run.{outcome_of}
use Rattle.calculus.specs.declared.Halt.{Halt}
use Rattle.calculus.specs.declared.End.TheVariants as ends
use Rattle.stepper.specs.declared.StepState.{StepState}
use Rattle.yields.specs.declared.Hint.{Hint}
use Rattle.yields.specs.declared.Yield.{Yield}
use Rattle.yields.specs.declared.Yield.TheVariants.{Gives, Halts, Blocked}
use Rattle.yields.specs.Malloc.{one_more, room_hint}
use Rattle.yields.specs.Yields.{Given}
use Rattle.stepper.specs.declared.StepTurn.{StepTurn}
use Rattle.stepper.specs.declared.StepTurn.TheVariants.{Goes, Steps, Ends}

-- ---- states
abbrev pub state_of : (row value code height lets : ℕ) → Bool → (steps first : ℕ) → Hint → StepState
state_of row value code height lets inside steps first h =
    record {
      row = row;
      value = value;
      code = code;
      height = height;
      lets = lets;
      inside = inside;
      steps = steps;
      first = first;
      hint = h;
    }

-- another value on top, and the next row; so many values on the stack, and so many bound; whether the row that was looked at lies inside an
-- unchecked block; another place to start to look for room
abbrev pub topped : StepState → (value code : ℕ) → StepState
topped s value code = state_of (one_more s.row) value code s.height s.lets s.inside s.steps s.first s.hint

abbrev pub resized : StepState → (height lets : ℕ) → StepState
resized s height lets = state_of s.row s.value s.code height lets s.inside s.steps s.first s.hint

abbrev pub looked : StepState → Bool → StepState
looked s inside = state_of s.row s.value s.code s.height s.lets inside s.steps s.first s.hint

abbrev pub hinted : StepState → (size from : ℕ) → StepState
hinted s size from = state_of s.row s.value s.code s.height s.lets s.inside s.steps s.first (room_hint size from)

-- the number of the first unchecked step, where the next one is counted too
abbrev pub first_by : (steps first : ℕ) → Bool → ℕ
first_by steps first inside = choose (first == 0) (λ _. choose inside (λ _. one_more steps) (λ _. 0)) (λ _. first)

abbrev pub first_now : StepState → ℕ
first_now s = first_by s.steps s.first s.inside

-- one step more
abbrev pub counting : StepState → StepState
counting s = state_of s.row s.value s.code s.height s.lets s.inside (one_more s.steps) (first_now s) s.hint

-- ---- how a run ends: the limit forbids the next step
abbrev pub ends_more : StepState → StepTurn
ends_more s = Ends (outcome_of ends.More s.steps s.first)

-- the whole expression is this value
abbrev pub ends_value : StepState → StepTurn
ends_value s = Ends (outcome_of (ends.Value (cell s.value (unpacked s.code))) s.steps s.first)

-- "Being Stuck is not" a step, and is told at the limit; "a halt is itself a step"
abbrev pub ends_stuck : StepState → StepTurn
ends_stuck s = Ends (outcome_of ends.Stuck s.steps (first_now s))

abbrev pub ends_halt : (limit : ℕ) → StepState → Halt → StepTurn
ends_halt limit s h =
    choose (nat_le limit s.steps) (λ _. ends_more s) (λ _. Ends (outcome_of (ends.Halted h) (one_more s.steps) (first_now s)))

-- ---- a step
abbrev pub count_within : (limit : ℕ) → StepState → StepTurn
count_within limit s = choose (nat_le limit s.steps) (λ _. ends_more s) (λ _. Steps (counting s))

-- what a node gives is on top, a step later
abbrev pub settled_by : (limit : ℕ) → StepState → Yield → StepTurn
settled_by limit s (Gives value code) = count_within limit (topped s value code)
settled_by limit s (Halts h) = ends_halt limit s h
settled_by limit s Blocked = ends_stuck s

-- ---- what a row comes to, and what it leaves: of one table, of the heap and the stack, of all
pub record Changed : Type 0 where
  pub turn : StepTurn
  pub table : List ℕ

pub record PlacedOn : Type 0 where
  pub turn : StepTurn
  pub heap : List ℕ
  pub stack : List ℕ

pub record Turned : Type 0 where
  pub turn : StepTurn
  pub heap : List ℕ
  pub stack : List ℕ
  pub bound : List ℕ

abbrev pub changed : StepTurn → List ℕ → Changed
changed t table = record { turn = t; table = table }

abbrev pub placed_on : StepTurn → (heap stack : List ℕ) → PlacedOn
placed_on t ws stack = record { turn = t; heap = ws; stack = stack }

abbrev pub turned_to : StepTurn → (heap stack bound : List ℕ) → Turned
turned_to t ws stack bound = record { turn = t; heap = ws; stack = stack; bound = bound }

-- the heap is another one where the machine goes on, and as it was where the run ends
abbrev pub heap_left : StepTurn → (ws ws' : List ℕ) → List ℕ
heap_left (Goes s) ws ws' = ws'
heap_left (Steps s) ws ws' = ws'
heap_left (Ends o) ws ws' = ws

unfoldable pub settled_on : (limit : ℕ) → StepState → List ℕ → Given → Changed
settled_on limit s ws g = changed (settled_by limit s g.yield) (heap_left (settled_by limit s g.yield) ws g.heap)
