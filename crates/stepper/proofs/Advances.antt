-- The simulation: up to and including its next step the machine over rows does what one step of the definition does; then for a run.
use Rattle.std.proofs.Common.{◌≡◌, ℕ, zero, suc, ◌+◌, ◌<◌, ◌≤◌, List, [], ◌∷◌, length, sym, refl, ap, ◌∙◌, arith}
use Rattle.cells.specs.Heap.{Heap}
use Rattle.cells.specs.declared.Mode.{Mode}
use Rattle.cells.specs.declared.Mode.TheVariants.{Checked}
use Rattle.cells.specs.declared.Cell.{Cell}
use Rattle.calculus.specs.Setting.{Setting, cell}
use Rattle.calculus.specs.Expr.{Expr, malloc, bind, one, two, act, pointer}
use Rattle.calculus.specs.Steps.{Step, done, stuck, halt, next, step, replace, Redex, blocked, halts, gives, redex_step, malloc_redex, one_redex, act_redex}
use Rattle.calculus.specs.Run.{Result, run, at_limit, onward, tick}
use Rattle.calculus.specs.declared.Halt.{Halt}
use Rattle.calculus.proofs.Apart.{differ}
use Rattle.image.specs.Shape.{height, Scoped}
use Rattle.tables.specs.Rows.{whole_rows, stop, TaskRow, task_row_at}
use Rattle.tables.specs.Parts.{PartRows, part_lit, part_var, part_malloc, part_bind, part_one, part_two, HoldsExpr}
use Rattle.tables.proofs.Placed.{row_inside}
use Rattle.stepper.specs.Moves.{Standing, standing, Move, ended, stays, halting, makes, quiet, redex_move, row_move, past_move, advance}
use Rattle.stepper.specs.Moves.{move_at_limit, move_onward, run_rows}
use Rattle.stepper.proofs.Close.{cell_lit, close, close_var, close_more, close_scoped}
use Rattle.calculus.proofs.Contexts.{Hole, plugs, Busy, busy_stuck, busy_halt, busy_next, carry, context}
use Rattle.stepper.proofs.Continuations.{Kont, k_end, k_one, k_left, k_right, k_hold, k_drop, Sim, begin, return, kont_mode}

module _ (types rows : List ℕ) (room : ℕ) where
  abbrev pub rows_of : ℕ → TaskRow
  rows_of = task_row_at types rows

  -- what the machine does up to the next step is what the expression does next
  pub data MeetsStep : Move → Step → Type 0 where
    m_ended : {c : Cell} → MeetsStep (ended c) (done c.value c.kind)
    m_stays : {m : Mode} → MeetsStep (stays m) (stuck m)
    m_halting : {h : Halt} {m : Mode} → MeetsStep (halting h m) (halt h m)
    m_makes : {s : Standing} {e : Expr} {H : Heap} {m : Mode} → Sim types rows room s e → MeetsStep (makes s H m) (next H e m)

  past_loud : {v : Move} {t : Step} (go : Standing → Move) → MeetsStep v t → past_move v go ≡ v
  past_loud go m_ended = refl
  past_loud go m_stays = refl
  past_loud go m_halting = refl
  past_loud go (m_makes k) = refl

  module _ (S : Setting) (H : Heap) where
    -- The redex of a context does what it does alone.
    lifted : {q : ℕ} {st ρ : List Cell} {m : Mode} {K : List Hole} {s : Step} (e : Expr)
        → Kont types rows room q st ρ m K → step S m H e ≡ s → Busy s → step S Checked H (plugs K e) ≡ carry (plugs K) s
    lifted {K} e k q b = context S H K e (rw (kont_mode types rows room k) q) b

    redex_meets : {p : ℕ} {st ρ : List Cell} {m : Mode} {K : List Hole} (e : Expr) (r : Redex)
        → step S m H e ≡ redex_step m r → length st < room → length ρ ≤ room → Kont types rows room (suc p) st ρ m K
        → MeetsStep (redex_move m p st ρ r) (step S Checked H (plugs K e))
    redex_meets e blocked q a b k = rw (lifted e k q busy_stuck) m_stays
    redex_meets e (halts h) q a b k = rw (lifted e k q busy_halt) m_halting
    redex_meets e (gives H' n κ) q a b k = rw (lifted e k q busy_next) (m_makes (return (cell n κ) a b k))

    makes_meets : {q : ℕ} {st ρ : List Cell} {m : Mode} {K : List Hole} {s : Standing} (e e' : Expr)
        → step S m H e ≡ next H e' m → Kont types rows room q st ρ m K → Sim types rows room s (plugs K e')
        → MeetsStep (makes s H m) (step S Checked H (plugs K e))
    makes_meets e e' q k sim = rw (lifted e k q busy_next) (m_makes sim)

    -- A row that makes a step, or ends the run.
    loud : (f p : ℕ) (st ρ : List Cell) {r : TaskRow} {t : Step}
        → rows_of p ≡ r → MeetsStep (row_move S H r p st ρ) t → MeetsStep (advance S rows_of f H (standing p st ρ)) t
    unfolding advance
    loud zero p st ρ q k = rw q k
    loud (suc f) p st ρ q k = rw (q, past_loud (advance S rows_of f H) k) k

    -- A row that makes none.
    still : (f p : ℕ) (st ρ : List Cell) {r : TaskRow} {s : Standing} {t : Step}
        → whole_rows rows ≤ p + f → rows_of p ≡ r → (r.work ≡ stop → ⊥) → row_move S H r p st ρ ≡ quiet s
        → ((g : ℕ) → f ≡ suc g → MeetsStep (advance S rows_of g H s) t) → MeetsStep (advance S rows_of f H (standing p st ρ)) t
    unfolding advance
    still zero p st ρ l q d v go =
        absurd (omega (arith, row_inside types rows p (λ z. d (ap (λ (r : TaskRow). r.work) (sym q) ∙ z))))
    still (suc f) p st ρ l q d v go = rw (q, v) (go f refl)

    -- With the fuel f a value goes on as its context does.
    abbrev Ready : ℕ → Type 0
    Ready f = (q : ℕ) (st ρ : List Cell) (m : Mode) (K : List Hole) (c : Cell) → whole_rows rows ≤ q + f → length st < room → length ρ ≤ room
        → Kont types rows room q st ρ m K
        → MeetsStep (advance S rows_of f H (standing q (c ∷ st) ρ)) (step S Checked H (plugs K (cell_lit c)))

    begins : (f : ℕ) {m : Mode} {i p q : ℕ} {e : Expr} {st ρ : List Cell} {K : List Hole}
        → ((g : ℕ) → f ≡ suc g → Ready g) → whole_rows rows ≤ p + f → PartRows types rows m i p e q
        → length st + height e ≤ room → length ρ + height e ≤ room → Kont types rows room q st ρ m K
        → MeetsStep (advance S rows_of f H (standing p st ρ)) (step S Checked H (plugs K (close 0 ρ e)))
    unfolding close step height
    begins f {p = p} {st = st} {ρ = ρ} go l (part_lit x) a b k =
        still f p st ρ l x (λ z. differ cc) refl (λ g w. go g w _ _ _ _ _ _ (omega arith) (omega arith) (omega arith) k)
    begins f {p = p} {st = st} {ρ = ρ} go l (part_var {k = j} x) a b k =
        rw (close_var ρ j)
        (still f p st ρ l x (λ z. differ cc) refl (λ g w. go g w _ _ _ _ _ _ (omega arith) (omega arith) (omega arith) k))
    begins f {p = p} {st = st} {ρ = ρ} go l (part_malloc {ω = ω} x d) a b k =
        loud f p st ρ x (redex_meets (malloc ω) (malloc_redex S H (pointer Checked ω)) refl (omega arith) (omega arith) k)
    begins f go l (part_bind u x v y) a b k =
        begins f go l u (omega arith) (omega arith) (k_hold x v y (omega arith) (omega arith) k)
    begins f go l (part_one u x) a b k = begins f go l u (omega arith) (omega arith) (k_one x k)
    begins f go l (part_two u v x) a b k =
        begins f go l u (omega arith) (omega arith) (k_left v x (omega arith) (omega arith) k)

    returns : (f : ℕ) → ((g : ℕ) → f ≡ suc g → Ready g) → Ready f
    unfolding step replace close
    returns f go q₀ st₀ ρ₀ m₀ K₀ c l a b (k_end {q} x) = loud f q (c ∷ []) [] refl (rw x m_ended)
    returns f go q₀ st₀ ρ₀ m₀ K₀ c l a b (k_one {q = q} {st = st} {ρ = ρ} {o = o} x k) =
        loud f q (c ∷ st) ρ x (redex_meets (one o (cell_lit c)) (one_redex S H o c.value c.kind) refl a b k)
    returns f go q₀ st₀ ρ₀ m₀ K₀ c l a b (k_left v x s n k) = begins f go l v s n (k_right {c = c} x k)
    returns f go q₀ st₀ ρ₀ m₀ K₀ c l a b (k_right {q = q} {st = st} {ρ = ρ} {o = o} {c = d} x k) =
        loud f q (c ∷ d ∷ st) ρ x
        (redex_meets (two (act o) (cell_lit d) (cell_lit c)) (act_redex S H o d.value d.kind c.value c.kind) refl (omega arith) b k)
    returns f go q₀ st₀ ρ₀ m₀ K₀ c l a b (k_hold {q = q} {st = st} {ρ = ρ} {b = e} x v y s n k) =
        loud f q (c ∷ st) ρ x
        (makes_meets (bind (cell_lit c) (close 1 ρ e)) _ refl k (rw (close_more 0 c ρ e) (begin v s n (k_drop y k))))
    returns f go q₀ st₀ ρ₀ m₀ K₀ c l a b (k_drop {q = q} {st = st} {ρ = ρ} {c = d} x k) =
        still f q (c ∷ st) (d ∷ ρ) l x (λ z. differ cc) refl (λ g w. go g w _ _ _ _ _ c (omega arith) a (omega arith) k)

    ready : (f : ℕ) → Ready f
    ready zero = returns zero (λ g w. absurd (omega arith))
    ready (suc f) = returns (suc f) (λ g w. let z : g ≡ f = omega arith in rw z (ready f))

    -- The simulation: up to the next step of the machine is one step of the definition.
    pub advances : {s : Standing} {e : Expr} → Sim types rows room s e → MeetsStep (advance S rows_of (whole_rows rows) H s) (step S Checked H e)
    advances (begin p a b k) = begins (whole_rows rows) (λ g w. ready g) (omega arith) p a b k
    advances (return c a b k) = ready (whole_rows rows) _ _ _ _ _ c (omega arith) a b k

  limit_same : {v : Move} {t : Step} (H : Heap) → MeetsStep v t → move_at_limit H v ≡ at_limit H t
  limit_same H m_ended = refl
  limit_same H m_stays = refl
  limit_same H m_halting = refl
  limit_same H (m_makes k) = refl

  onward_same : {v : Move} {t : Step} (H : Heap) (go : Heap → Standing → Result) (go' : Heap → Expr → Result)
      → ((H : Heap) (s : Standing) (e : Expr) → Sim types rows room s e → go H s ≡ go' H e) → MeetsStep v t → move_onward H v go ≡ onward H t go'
  onward_same H go go' same m_ended = refl
  onward_same H go go' same m_stays = refl
  onward_same H go go' same m_halting = refl
  onward_same H go go' same (m_makes {H = H'} {m} k) = ap (tick m) (same H' _ _ k)

  -- From a state that stands for an expression the machine runs as the definition does.
  pub same_run : (S : Setting) (limit : ℕ) (H : Heap) (s : Standing) (e : Expr)
      → Sim types rows room s e → run_rows S rows_of (whole_rows rows) limit H s ≡ run S limit H e
  unfolding run_rows run
  same_run S zero H s e k = limit_same H (advances S H k)
  same_run S (suc limit) H s e k = onward_same H (run_rows S rows_of (whole_rows rows) limit) (run S limit) (same_run S limit) (advances S H k)

  -- The state at the start stands for the script.
  pub starts : {i : ℕ} {e : Expr} → Scoped 0 e → height e ≤ room → HoldsExpr types rows Checked i 0 e → Sim types rows room (standing 0 [] []) e
  starts {e = e} scoped low h =
      let sim : Sim types rows room (standing 0 [] []) (close 0 [] e) = begin {st = []} {ρ = []} h.part (omega arith) (omega arith) (k_end h.stops) in
      rw (close_scoped [] scoped) at sim

  -- The theorem: the rows of a script run as the script does.
  pub rows_run : (S : Setting) (limit : ℕ) (H : Heap) {i : ℕ} {e : Expr} → Scoped 0 e → height e ≤ room → HoldsExpr types rows Checked i 0 e
      → run_rows S rows_of (whole_rows rows) limit H (standing 0 [] []) ≡ run S limit H e
  rows_run S limit H {e = e} scoped low h = same_run S limit H (standing 0 [] []) e (starts scoped low h)
