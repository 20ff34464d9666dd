-- The state after a transition, how a run ends, and what a transition leaves of the lent tables.
use Rattle.std.specs.Prelude.{ℕ, ◌+◌, ◌-◌, Bool, List, ◌==◌, nat_le}
use Rattle.std.specs.declared.ops.ControlFlow.{ControlFlow}
use Rattle.std.specs.declared.ops.ControlFlow.TheVariants.{Continue, Break}
use Rattle.choice.specs.Choice.{choose, both}
use Rattle.cells.specs.declared.Cell.{Cell}
use Rattle.cells.specs.Code.{unpacked}
use Rattle.calculus.specs.Setting.{cell}
use Rattle.calculus.specs.Run.{outcome_of}
use Rattle.calculus.specs.declared.Halt.{Halt}
use Rattle.calculus.specs.declared.End.TheVariants as ends
use Rattle.calculus.specs.declared.Outcome.{Outcome}
use Rattle.yields.specs.declared.Hint.{Hint}
use Rattle.yields.specs.declared.Yield.{Yield}
use Rattle.yields.specs.declared.Yield.TheVariants.{Gives, Halts, Blocked}
use Rattle.yields.specs.Yields.{Given}
use Rattle.yields.specs.Malloc.{room_hint}
use Rattle.machine.specs.declared.CodedValue.{CodedValue}
use Rattle.machine.specs.declared.Focus.{Focus}
use Rattle.machine.specs.declared.Focus.TheVariants as focus
use Rattle.machine.specs.declared.State.{State}

-- what a transition comes to: the machine goes on, or the run ends
abbrev pub Turn : Type 0
Turn = ControlFlow Outcome State

abbrev pub goes : State → Turn
goes s = Continue s

abbrev pub over : Outcome → Turn
over o = Break o

-- where the machine goes on, what its state gives; where the run ends, what the outcome gives
abbrev pub turned : {A : Type 0} → Turn → (State → A) → (Outcome → A) → A
turned (Continue s) on ended = on s
turned (Break o) on ended = ended o

-- ---- states
abbrev pub coded_value : (value code : ℕ) → CodedValue
coded_value value code = record { value = value; code = code }

abbrev pub cell_of : CodedValue → Cell
cell_of v = cell v.value (unpacked v.code)

abbrev pub state : Focus → (height lets : ℕ) → Bool → (steps first : ℕ) → Hint → State
state f height lets inside steps first h =
    record { focus = f; height = height; lets = lets; inside = inside; steps = steps; first = first; hint = h }

-- another focus; another height, with the mode of the node there; another count of bound values; another place to start to look for room
abbrev pub focused : State → Focus → State
focused s f = record s { focus = f }

abbrev pub with_node : State → (at : ℕ) → State
with_node s at = focused s (focus.Node at)

-- a number with the code of its kind; no kind has code 0, which is left to the number of a node
abbrev pub focus_of : (value code : ℕ) → Focus
focus_of value code = choose (code == 0) (λ _. focus.Node value) (λ _. focus.Value (coded_value value code))

abbrev pub with_value : State → (value code : ℕ) → State
with_value s value code = focused s (focus_of value code)

abbrev pub at_height : State → (height : ℕ) → Bool → State
at_height s height inside = record s { height = height; inside = inside }

abbrev pub popped : State → State
popped s = at_height s (s.height - 1) s.inside

abbrev pub with_lets : State → (lets : ℕ) → State
with_lets s lets = record s { lets = lets }

abbrev pub with_hint : State → (size from : ℕ) → State
with_hint s size from = record s { hint = room_hint size from }

-- the number of the first unchecked step, where the next one, which has that number, is counted too
abbrev pub first_told : (next first : ℕ) → (inside : Bool) → ℕ
first_told next first inside = choose (both (first == 0) inside) (λ _. next) (λ _. first)

abbrev pub first_of : (steps first : ℕ) → (inside : Bool) → ℕ
first_of steps first inside = first_told (steps + 1) first inside

abbrev pub first_in : State → ℕ
first_in s = first_of s.steps s.first s.inside

-- one step more
abbrev pub stepped : State → State
stepped s = record s { steps = s.steps + 1; first = first_in s }

-- ---- how a run ends: the limit forbids the next step
abbrev pub more : State → Turn
more s = over (outcome_of ends.More s.steps s.first)

-- the whole expression is this value
abbrev pub done : State → CodedValue → Turn
done s v = over (outcome_of (ends.Value (cell_of v)) s.steps s.first)

-- "Being Stuck is not" a step, and is told at the limit; "a halt is itself a step"
abbrev pub stuck : State → Turn
stuck s = over (outcome_of ends.Stuck s.steps (first_in s))

abbrev pub halt : (limit : ℕ) → State → Halt → Turn
halt limit s h = choose (nat_le limit s.steps) (λ _. more s) (λ _. over (outcome_of (ends.Halted h) (s.steps + 1) (first_in s)))

-- ---- a step
abbrev pub step_within : (limit : ℕ) → State → Turn
step_within limit s = choose (nat_le limit s.steps) (λ _. more s) (λ _. goes (stepped s))

-- what a node gives is in focus, a step later
abbrev pub contracted : (limit : ℕ) → State → Yield → Turn
contracted limit s (Gives value code) = step_within limit (with_value s value code)
contracted limit s (Halts h) = halt limit s h
contracted limit s Blocked = stuck s

-- ---- what a transition comes to, and what it leaves: of one table, of the frames and the bound values, of all
pub record Leaving : Type 0 where
  pub turn : Turn
  pub table : List ℕ

pub record Stacked : Type 0 where
  pub turn : Turn
  pub frames : List ℕ
  pub bound : List ℕ

pub record Moved : Type 0 where
  pub turn : Turn
  pub heap : List ℕ
  pub frames : List ℕ
  pub bound : List ℕ

abbrev pub leaving : Turn → List ℕ → Leaving
leaving t table = record { turn = t; table = table }

abbrev pub stacked : Turn → (frames bound : List ℕ) → Stacked
stacked t frames bound = record { turn = t; frames = frames; bound = bound }

abbrev pub moved : Turn → (heap frames bound : List ℕ) → Moved
moved t ws frames bound = record { turn = t; heap = ws; frames = frames; bound = bound }

-- a table is another one where the machine goes on, and as it was where the run ends
abbrev pub word_written : Turn → (t t' : List ℕ) → Leaving
word_written r t t' = leaving r (turned r (λ _. t') (λ _. t))

unfoldable pub settled : (limit : ℕ) → State → List ℕ → Given → Leaving
settled limit s ws g = word_written (contracted limit s g.yield) ws g.heap

-- the tables that a transition does not change stay as they are
abbrev pub on_heap : (frames bound : List ℕ) → Leaving → Moved
on_heap frames bound m = moved m.turn m.table frames bound

abbrev pub on_frames : (ws bound : List ℕ) → Leaving → Moved
on_frames ws bound m = moved m.turn ws m.table bound

abbrev pub on_stack : (ws : List ℕ) → Stacked → Moved
on_stack ws m = moved m.turn ws m.frames m.bound

abbrev pub beside : (bound : List ℕ) → Leaving → Stacked
beside bound m = stacked m.turn m.table bound
