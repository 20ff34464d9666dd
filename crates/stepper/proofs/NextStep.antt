-- Up to and including its next step the code does what one step of the definition does, from a state that stands for an expression.
use Rattle.std.proofs.Common.{◌≡◌, ℕ, zero, suc, ◌*◌, ◌^◌, ◌<◌, ◌≤◌, Bool, List, length, refl}
use Rattle.cells.specs.Heap.{Heap, SmallHeap}
use Rattle.cells.specs.Lent.{lent}
use Rattle.cells.specs.declared.Mode.TheVariants.{Checked}
use Rattle.cells.specs.declared.Cell.{Cell}
use Rattle.calculus.specs.Setting.{Setting}
use Rattle.calculus.specs.Expr.{Expr}
use Rattle.calculus.specs.Steps.{step}
use Rattle.tables.specs.Heads.{task_in, inside_in, slot_in}
use Rattle.tables.specs.Rows.{whole_rows, head_at, datum_at, task_row_at}
use Rattle.tables.proofs.Placed.{row_inside}
use Rattle.stepper.specs.Moves.{Standing, standing, Move, quiet, past_move, standing_move, advance}
use Rattle.yields.specs.declared.Hint.{Hint}
use Rattle.stepper.specs.declared.StepState.{StepState}
use Rattle.yields.specs.declared.Terms.{Terms}
use Rattle.stepper.specs.States.{Turned, state_of}
use Rattle.stepper.specs.Turns.{row_turn, after_quiet, advanced}
use Rattle.stepper.proofs.Continuations.{Sim}
use Rattle.stepper.proofs.Advances.{rows_of, MeetsStep, advances}
use Rattle.stepper.proofs.Fitting.{sim_fits, sim_quiet}
use Rattle.yields.proofs.GivesAs.{OnTerms}
use Rattle.yields.proofs.Zeroed.{HintHolds}
use Rattle.stepper.proofs.Follows.{Stands, Follows, f_ended, f_stays, f_halting, f_makes, f_quiet, task_follows}

-- the lent memory of a machine over the heap H, with room for so many values on the stack and as many bound
pub record Lends (T : Terms) (room : ℕ) (H : Heap) (ht : Hint) (high lets : ℕ) : Type 0 where
  pub heap_small : SmallHeap H
  pub heap_long : length H ≡ T.words
  pub hint_holds : HintHolds H T.low ht
  pub stack_room : 2 * room ≤ high
  pub bound_room : 2 * room ≤ lets

module _ {S : Setting} {T : Terms} {ws structs types : List ℕ} (L : OnTerms S T ws structs types) (rows : List ℕ) (room : ℕ)
    (short : whole_rows rows < 2 ^ 62)
    (H : Heap) (steps first : ℕ) (ht : Hint) where
  -- one row
  row_follows : {p v c : ℕ} {st ρ : List Cell} {e : Expr} (stack bound : List ℕ) (x : Bool) → Lends T room H ht (length stack) (length bound)
      → Stands rows stack bound steps p v c st ρ → Sim types rows room (standing p st ρ) e
      → Follows T ws rows H (length stack) (length bound) steps first ht
      (row_turn rows structs types T (lent H ws) stack bound (state_of p v c (length st) (length ρ) x steps first ht))
      (standing_move S (rows_of types rows room) H (standing p st ρ))
  unfolding row_turn task_row_at
  row_follows {p} {st = st} {ρ = ρ} stack bound x M from sim =
      task_follows L rows room short H M.heap_small M.heap_long stack bound M.stack_room M.bound_room steps first ht M.hint_holds
      (inside_in (head_at rows p)) p ρ from.bounds from.slow st (task_in (head_at rows p)) (slot_in (head_at rows p)) (datum_at rows p) from.top
      (row_inside types rows p) (sim_fits types rows room sim)

  -- a row that is not quiet, and then nothing; a quiet one, and then the rest
  past_follows : {r : Turned} {m : Move} (high lets : ℕ) (go : StepState → (ws stack bound : List ℕ) → Turned) (go' : Standing → Move)
      → ((p v c : ℕ) (st ρ : List Cell) (x : Bool) (stack bound : List ℕ) → m ≡ quiet (standing p st ρ) → length stack ≡ high → length bound ≡ lets
      → Stands rows stack bound steps p v c st ρ
      → Follows T ws rows H high lets steps first ht (go (state_of p v c (length st) (length ρ) x steps first ht) (lent H ws) stack bound)
      (go' (standing p st ρ)))
      → Follows T ws rows H high lets steps first ht r m → Follows T ws rows H high lets steps first ht (after_quiet r go) (past_move m go')
  past_follows high lets go go' next (f_ended {c = c} {stack = stack} {bound = bound} q) = f_ended {c = c} {stack = stack} {bound = bound} (rw q)
  past_follows high lets go go' next (f_stays b {stack = stack} {bound = bound} q) = f_stays b {stack = stack} {bound = bound} (rw q)
  past_follows high lets go go' next (f_halting {h = h} b {stack = stack} {bound = bound} q₀ q₁) =
      f_halting {h = h} b {stack = stack} {bound = bound} (λ l. rw (q₀ l)) (λ l. rw (q₁ l))
  past_follows high lets go go' next (f_makes b {x = x} {p = p} {v = v} {c = c} {st = st} {ρ = ρ} {H' = H'} {ht' = ht'} {stack = stack} {bound = bound}
      {stack' = stack'} {bound' = bound'} q₀ q₁ n k lh ll s) =
      f_makes b {x = x} {p = p} {v = v} {c = c} {st = st} {ρ = ρ} {H' = H'} {ht' = ht'} {stack = stack} {bound = bound} {stack' = stack'} {bound' = bound'}
      (λ l. rw (q₀ l)) (λ l. rw (q₁ l)) n k lh ll s
  past_follows high lets go go' next (f_quiet {x = x} {p = p} {v = v} {c = c} {st = st} {ρ = ρ} {stack' = stack} {bound' = bound} q lh ll s) =
      rw q (next p v c st ρ x stack bound refl lh ll s)

  -- the rows up to the next step
  rows_follow : (fuel : ℕ) {p v c : ℕ} {st ρ : List Cell} {e : Expr} (stack bound : List ℕ) (x : Bool) → Lends T room H ht (length stack) (length bound)
      → Stands rows stack bound steps p v c st ρ → Sim types rows room (standing p st ρ) e
      → Follows T ws rows H (length stack) (length bound) steps first ht
      (advanced rows structs types T fuel (state_of p v c (length st) (length ρ) x steps first ht) (lent H ws) stack bound)
      (advance S (rows_of types rows room) fuel H (standing p st ρ))
  unfolding advanced advance
  rows_follow zero stack bound x M from sim = row_follows stack bound x M from sim
  rows_follow (suc fuel) stack bound x M from sim =
      past_follows (length stack) (length bound) (advanced rows structs types T fuel) (advance S (rows_of types rows room) fuel H)
      (λ p' v' c' st' ρ' x' stack' bound' q lh ll s.
      rw (← lh, ← ll) (rows_follow fuel stack' bound' x' (rw (lh, ll) M) s (sim_quiet types rows room S H sim q)))
      (row_follows stack bound x M from sim)

  -- one step of the code, and one of the definition: both are what a move of the model is
  pub record NextStep (r : Turned) (high lets : ℕ) (e : Expr) : Type 0 where
    pub move : Move
    pub follows : Follows T ws rows H high lets steps first ht r move
    pub meets : MeetsStep types rows room move (step S Checked H e)

  -- The law of `advance`: from a state that stands for e it makes the definition's next step.
  pub next_step : {p v c : ℕ} {st ρ : List Cell} {e : Expr} (stack bound : List ℕ) (x : Bool) → Lends T room H ht (length stack) (length bound)
      → Stands rows stack bound steps p v c st ρ → Sim types rows room (standing p st ρ) e
      → NextStep (advanced rows structs types T (whole_rows rows) (state_of p v c (length st) (length ρ) x steps first ht) (lent H ws) stack bound)
      (length stack) (length bound) e
  next_step {p} {st = st} {ρ = ρ} stack bound x M from sim =
      record {
        move = advance S (rows_of types rows room) (whole_rows rows) H (standing p st ρ);
        follows = rows_follow (whole_rows rows) stack bound x M from sim;
        meets = advances types rows room S H sim;
      }
