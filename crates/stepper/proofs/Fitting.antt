-- Of a state that stands for an expression: its row has room for what it puts, a malloc's datum is the very code of its kind, and a row
-- without a step leaves a state that stands for the same expression.
use Rattle.std.proofs.Common.{◌≡◌, ℕ, ◌+◌, ◌<◌, ◌≤◌, List, ◌∷◌, length, get_or, subst, arith}
use Rattle.cells.specs.Code.{packed}
use Rattle.cells.specs.Heap.{Heap}
use Rattle.cells.specs.declared.Mode.{Mode}
use Rattle.cells.specs.declared.Kind.{Kind}
use Rattle.cells.specs.declared.Cell.{Cell}
use Rattle.calculus.specs.Setting.{Setting, cell}
use Rattle.calculus.specs.Expr.{Expr, One}
use Rattle.calculus.specs.Steps.{Redex, blocked, halts, gives, malloc_redex, one_redex, act_redex}
use Rattle.calculus.specs.declared.Act.{Act}
use Rattle.image.specs.Shape.{height}
use Rattle.tables.specs.Rows.{datum_at, Work, push, fetch, take, apply, join, hold, drop, stop, task_row_at}
use Rattle.tables.specs.Parts.{PartRows, part_lit, part_var, part_malloc, part_bind, part_one, part_two}
use Rattle.stepper.specs.Moves.{Standing, standing, nought, Move, ended, stays, halting, makes, quiet, redex_move, standing_move}
use Rattle.stepper.proofs.Close.{close, close_var}
use Rattle.calculus.proofs.Contexts.{Hole, plugs}
use Rattle.stepper.proofs.Continuations.{Kont, k_end, k_one, k_left, k_right, k_hold, k_drop, Sim, begin, return}
use Rattle.stepper.proofs.Advances.{rows_of}

-- the work of a row with a datum fits, where so many values are on the stack and so many are bound
pub data RowFits (room : ℕ) (high lets datum : ℕ) : Work → Type 0 where
  fits_push : {n : ℕ} {κ : Kind} → high < room → RowFits room high lets datum (push n κ)
  fits_fetch : {k : ℕ} → high < room → RowFits room high lets datum (fetch k)
  fits_take : {κ : Kind} → high < room → datum ≡ packed κ → RowFits room high lets datum (take κ)
  fits_apply : {o : One} → RowFits room high lets datum (apply o)
  fits_join : {o : Act} → RowFits room high lets datum (join o)
  fits_hold : lets < room → RowFits room high lets datum hold
  fits_drop : RowFits room high lets datum drop
  fits_stop : RowFits room high lets datum stop

module _ (types rows : List ℕ) (room : ℕ) where
  part_fits : {m : Mode} {i p q : ℕ} {e : Expr} (st ρ : List Cell) → PartRows types rows m i p e q → length st + height e ≤ room
      → RowFits room (length st) (length ρ) (datum_at rows p) (task_row_at types rows p).work
  unfolding height
  part_fits st ρ (part_lit x) a = rw x (fits_push (omega arith))
  part_fits st ρ (part_var x) a = rw x (fits_fetch (omega arith))
  part_fits st ρ (part_malloc x d) a = rw x (fits_take (omega arith) d)
  part_fits st ρ (part_bind u x v y) a = part_fits st ρ u (omega arith)
  part_fits st ρ (part_one u x) a = part_fits st ρ u (omega arith)
  part_fits st ρ (part_two u v x) a = part_fits st ρ u (omega arith)

  pub sim_fits : {s : Standing} {e : Expr} → Sim types rows room s e
      → RowFits room (length s.stack) (length s.bound) (datum_at rows s.row) (task_row_at types rows s.row).work
  sim_fits (begin {st = st} {ρ = ρ} p a b k) = part_fits st ρ p a
  sim_fits (return c a b (k_end x)) = rw x fits_stop
  sim_fits (return c a b (k_one x k)) = rw x fits_apply
  sim_fits (return c a b (k_left {st = st} {ρ = ρ} v x s n k)) = part_fits (c ∷ st) ρ v s
  sim_fits (return c a b (k_right x k)) = rw x fits_join
  sim_fits (return c a b (k_hold x v y s n k)) = rw x (fits_hold (omega arith))
  sim_fits (return c a b (k_drop x k)) = rw x fits_drop

  module _ (S : Setting) (H : Heap) where
    -- where a move is without a step, it leads to a state that stands for the expression
    data Stays (e : Expr) : Move → Type 0 where
      no_more : {c : Cell} → Stays e (ended c)
      no_rule : {m : Mode} → Stays e (stays m)
      no_value : {h : _} {m : Mode} → Stays e (halting h m)
      no_quiet : {s : Standing} {H' : Heap} {m : Mode} → Stays e (makes s H' m)
      still_sim : {s : Standing} → Sim types rows room s e → Stays e (quiet s)

    redex_stays : {e : Expr} (m : Mode) (p : ℕ) (st ρ : List Cell) (r : Redex) → Stays e (redex_move m p st ρ r)
    redex_stays m p st ρ blocked = no_rule
    redex_stays m p st ρ (halts h) = no_value
    redex_stays m p st ρ (gives H' n κ) = no_quiet

    part_stays : {m : Mode} {i p q : ℕ} {e : Expr} {st ρ : List Cell} {K : List Hole}
        → PartRows types rows m i p e q → length st + height e ≤ room → length ρ + height e ≤ room → Kont types rows room q st ρ m K
        → Stays (plugs K (close 0 ρ e)) (standing_move S (rows_of types rows room) H (standing p st ρ))
    unfolding height close
    part_stays {st = st} {ρ = ρ} {K = K} (part_lit {n} {κ} x) a b k =
        rw x (still_sim (return {st = st} {ρ = ρ} {K = K} (cell n κ) (omega arith) (omega arith) k))
    part_stays {st = st} {ρ = ρ} {K = K} (part_var {k = j} x) a b k =
        rw (x, close_var ρ j) (still_sim (return {st = st} {ρ = ρ} {K = K} (get_or ρ j nought) (omega arith) (omega arith) k))
    part_stays {m} {p = p} {st = st} {ρ = ρ} (part_malloc {ω = ω} x d) a b k = rw x (redex_stays m p st ρ (malloc_redex S H _))
    part_stays (part_bind u x v y) a b k = part_stays u (omega arith) (omega arith) (k_hold x v y (omega arith) (omega arith) k)
    part_stays (part_one u x) a b k = part_stays u (omega arith) (omega arith) (k_one x k)
    part_stays (part_two u v x) a b k = part_stays u (omega arith) (omega arith) (k_left v x (omega arith) (omega arith) k)

    sim_stays : {s : Standing} {e : Expr} → Sim types rows room s e → Stays e (standing_move S (rows_of types rows room) H s)
    sim_stays (begin p a b k) = part_stays p a b k
    sim_stays (return c a b (k_end x)) = rw x no_more
    sim_stays (return c a b (k_one {q = q} {st = st} {ρ = ρ} {m = m} {o = o} x k)) =
        rw x (redex_stays m q st ρ (one_redex S H o c.value c.kind))
    sim_stays (return c a b (k_left v x s n k)) = part_stays v s n (k_right {c = c} x k)
    sim_stays (return c a b (k_right {q = q} {st = st} {ρ = ρ} {m = m} {o = o} {c = d} x k)) =
        rw x (redex_stays m q st ρ (act_redex S H o d.value d.kind c.value c.kind))
    sim_stays (return c a b (k_hold x v y s n k)) = rw x no_quiet
    sim_stays (return c a b (k_drop {st = st} {ρ = ρ} {K = K} x k)) = rw x (still_sim (return {st = st} {ρ = ρ} {K = K} c a (omega arith) k))

    quiet_again : {s : Standing} {e : Expr} → Stays e (quiet s) → Sim types rows room s e
    quiet_again (still_sim k) = k

    pub sim_quiet : {s s' : Standing} {e : Expr} → Sim types rows room s e → standing_move S (rows_of types rows room) H s ≡ quiet s'
        → Sim types rows room s' e
    sim_quiet {e = e} k q = quiet_again (subst (Stays e) q (sim_stays k))
