-- The machine over rows in run order, with lists of cells in the place of lent memory: what a row does, up to the next step, and a run.
use Rattle.std.specs.Prelude.{ℕ, zero, suc, List, [], ◌∷◌, slice_index_or}
use Rattle.cells.specs.Heap.{Heap}
use Rattle.cells.specs.declared.Mode.{Mode}
use Rattle.cells.specs.declared.Kind.TheVariants.{Int}
use Rattle.cells.specs.declared.Cell.{Cell}
use Rattle.calculus.specs.Setting.{Setting, cell}
use Rattle.calculus.specs.Steps.{Redex, blocked, halts, gives, malloc_redex, one_redex, act_redex}
use Rattle.calculus.specs.Run.{Result, result, tick, first_at}
use Rattle.calculus.specs.declared.Halt.{Halt}
use Rattle.calculus.specs.declared.End.TheVariants.{Value, Halted, Stuck, More}
use Rattle.tables.specs.Rows.{Work, push, fetch, take, apply, join, hold, drop, stop, TaskRow}

-- where the machine stands: the row that is next, the stack of values, the bound values, the innermost first
pub record Standing : Type 0 where
  pub row : ℕ
  pub stack : List Cell
  pub bound : List Cell

abbrev pub standing : ℕ → (stack bound : List Cell) → Standing
standing p st ρ = record { row = p; stack = st; bound = ρ }

-- what a row does: the expression is this value; no rule fits; it halts; it makes a step; or it goes on without one
pub data Move : Type 0 where
  ended : Cell → Move
  stays : Mode → Move
  halting : Halt → Mode → Move
  makes : Standing → Heap → Mode → Move
  quiet : Standing → Move

-- what a redex gives goes onto the stack, and the next row is on
abbrev pub redex_move : Mode → ℕ → (st ρ : List Cell) → Redex → Move
redex_move m p st ρ blocked = stays m
redex_move m p st ρ (halts h) = halting h m
redex_move m p st ρ (gives H n κ) = makes (standing (suc p) (cell n κ ∷ st) ρ) H m

-- a variable that is bound nowhere is read as int 0; no script that was read has one
abbrev pub nought : Cell
nought = cell 0 Int

-- row p does its work; where values are missing no rule fits
abbrev pub work_move : Setting → Heap → Work → Mode → ℕ → (st ρ : List Cell) → Move
work_move S H (push n κ) m p st ρ = quiet (standing (suc p) (cell n κ ∷ st) ρ)
work_move S H (fetch k) m p st ρ = quiet (standing (suc p) (slice_index_or ρ k nought ∷ st) ρ)
work_move S H (take κ) m p st ρ = redex_move m p st ρ (malloc_redex S H κ)
work_move S H (apply o) m p [] ρ = stays m
work_move S H (apply o) m p (c ∷ st) ρ = redex_move m p st ρ (one_redex S H o c.value c.kind)
work_move S H (join o) m p [] ρ = stays m
work_move S H (join o) m p (c ∷ []) ρ = stays m
work_move S H (join o) m p (c ∷ d ∷ st) ρ = redex_move m p st ρ (act_redex S H o d.value d.kind c.value c.kind)
work_move S H hold m p [] ρ = stays m
work_move S H hold m p (c ∷ st) ρ = makes (standing (suc p) st (c ∷ ρ)) H m
work_move S H drop m p st [] = stays m
work_move S H drop m p st (c ∷ ρ) = quiet (standing (suc p) st ρ)
work_move S H stop m p [] ρ = stays m
work_move S H stop m p (c ∷ st) ρ = ended c

abbrev pub row_move : Setting → Heap → TaskRow → ℕ → (st ρ : List Cell) → Move
row_move S H r p st ρ = work_move S H r.work r.mode p st ρ

abbrev pub past_move : Move → (Standing → Move) → Move
past_move (ended c) go = ended c
past_move (stays m) go = stays m
past_move (halting h m) go = halting h m
past_move (makes s H m) go = makes s H m
past_move (quiet s) go = go s

-- the rows by their numbers
module _ (S : Setting) (T : ℕ → TaskRow) where
  abbrev pub standing_move : Heap → Standing → Move
  standing_move H s = row_move S H (T s.row) s.row s.stack s.bound

  -- up to and including the next step: rows without one go forward, so that there are no more of them than rows
  unfoldable pub advance : (fuel : ℕ) → Heap → Standing → Move
  advance zero H s = standing_move H s
  advance (suc fuel) H s = past_move (standing_move H s) (advance fuel H)

abbrev pub move_at_limit : Heap → Move → Result
move_at_limit H (ended c) = result (Value c) 0 0 H
move_at_limit H (stays m) = result Stuck 0 (first_at m) H
move_at_limit H (halting h m) = result More 0 0 H
move_at_limit H (makes s H' m) = result More 0 0 H
move_at_limit H (quiet s) = result More 0 0 H

abbrev pub move_onward : Heap → Move → (Heap → Standing → Result) → Result
move_onward H (ended c) go = result (Value c) 0 0 H
move_onward H (stays m) go = result Stuck 0 (first_at m) H
move_onward H (halting h m) go = result (Halted h) 1 (first_at m) H
move_onward H (makes s H' m) go = tick m (go H' s)
move_onward H (quiet s) go = result More 0 0 H

-- a run over n rows, with at most `limit` steps
unfoldable pub run_rows : Setting → (T : ℕ → TaskRow) (n limit : ℕ) → Heap → Standing → Result
run_rows S T n zero H s = move_at_limit H (advance S T n H s)
run_rows S T n (suc limit) H s = move_onward H (advance S T n H s) (run_rows S T n limit)
