-- The code's state stands for the model's, and a row does with it what the model's row does.
use Rattle.std.proofs.Common.{◌≡◌, ℕ, suc, ◌-◌, ◌*◌, ◌/◌, ◌^◌, ◌<◌, ◌≤◌, Bool, false, eqb, leb, List, [], ◌∷◌, length, get_or, sym, refl, ap, ◌∙◌}
use Rattle.std.proofs.Common.{add-one, arith, le-ltb, ne_eqb, le-leb}
use native.Mathlib.Decide.{dec_le}
use lib.ListN.{get_or-eq_default}
use borrow.Author.Tests.{lt-leb}
use Rattle.cells.specs.Code.{packed, unpacked, Small, small_int}
use Rattle.cells.specs.Heap.{Heap, SmallHeap}
use Rattle.cells.specs.Lent.{lent, lent_number, put_word}
use Rattle.cells.specs.declared.Kind.{Kind}
use Rattle.cells.specs.declared.Cell.{Cell}
use Rattle.cells.proofs.Codes.{round_trip, unpacked_small}
use Rattle.cells.proofs.View.{length_put}
use Rattle.calculus.specs.Setting.{Setting, cell}
use Rattle.calculus.specs.Expr.{One, unchecked, cast, read, field}
use Rattle.calculus.specs.Steps.{Redex, malloc_redex}
use Rattle.calculus.specs.Run.{outcome_of}
use Rattle.calculus.specs.declared.Act.{Act}
use Rattle.calculus.specs.declared.End.TheVariants as ends
use Rattle.calculus.specs.declared.Halt.{Halt}
use Rattle.calculus.proofs.Apart.{differ}
use Rattle.tables.specs.Kinds.{type_code_at}
use Rattle.tables.specs.Rows.{whole_rows, type_kind, inside_mode, work_of, stop, apply, join, hold, drop}
use Rattle.tables.specs.declared.Task.{Task}
use Rattle.tables.specs.declared.Task.TheVariants as task
use Rattle.tables.proofs.Held.{type_kind_lem, type_exact}
use Rattle.tables.proofs.Operands.{one_task, OneOperands}
use Rattle.stepper.specs.Moves.{standing, nought, Move, ended, stays, halting, makes, quiet, redex_move, work_move}
use Rattle.yields.specs.declared.Hint.{Hint}
use Rattle.stepper.specs.declared.StepState.{StepState}
use Rattle.yields.specs.declared.Terms.{Terms}
use Rattle.stepper.specs.declared.StepTurn.TheVariants.{Goes, Steps, Ends}
use Rattle.yields.specs.Malloc.{one_more}
use Rattle.stepper.specs.States.{Changed, Turned, turned_to, state_of, first_by}
use Rattle.stepper.specs.Stack.{pushed, fetched, allotted, applied, joined_row, bound_next, unbound_next, stopped_at, on_stack_of, on_heap_of, on_bound_of}
use Rattle.stepper.specs.Stack.{beside_bound, task_turn}
use Rattle.stepper.proofs.Listed.{Listed, listed_none, listed_more, listed_put, listed_at, listed_small}
use Rattle.stepper.proofs.Fitting.{RowFits, fits_push, fits_fetch, fits_take, fits_hold}
use Rattle.yields.specs.declared.ArrayCounts.TheVariants.{Cut}
use Rattle.yields.proofs.GivesAs.{HeapNext, heap_stays, OnTerms, act_as}
use Rattle.stepper.proofs.OnePart.{one_as}
use Rattle.yields.proofs.Zeroed.{HintHolds}
use Rattle.stepper.proofs.Does.{Does, does_blocked, does_halts, does_gives, settled_does, one_does, malloc_does}

-- the first of the values, if there is one, and those below it in the lent stack
pub data TopIs (stack : List ℕ) : (value code : ℕ) → List Cell → Type 0 where
  top_none : {v c : ℕ} → TopIs stack v c []
  top_some : {st : List Cell} {c : Cell} → Listed stack st → Small c.kind → TopIs stack c.value (packed c.kind) (c ∷ st)

-- the values below a new one
spilled : {stack : List ℕ} {v c : ℕ} {st : List Cell} (room : ℕ) → 2 * room ≤ length stack → length st < room → TopIs stack v c st
    → Listed (put_word stack (length st) v c) st
spilled room l h top_none = listed_none
spilled room l h (top_some {c = c} e s) = listed_put c (omega arith) s e

-- the value below the top is on top once that is gone
uncovered : {stack : List ℕ} {st : List Cell} → Listed stack st → TopIs stack (lent_number stack (length st) 0) (lent_number stack (length st) 1) st
uncovered listed_none = top_none
uncovered (listed_more e w k) = rw (w.value_is, w.code_is) (top_some e k)

-- what a state has of the model's: the row that is next, the top, what is below it and what is bound
pub record Stands (rows stack bound : List ℕ) (steps p v c : ℕ) (st ρ : List Cell) : Type 0 where
  pub top : TopIs stack v c st
  pub bounds : Listed bound ρ
  pub slow : steps ≤ p
  pub within : p ≤ whole_rows rows

-- ---- a row, after so many steps, comes to what the model's move is
pub data Follows (T : Terms) (ws rows : List ℕ) (H : Heap) (high lets steps first : ℕ) (ht : Hint) (r : Turned) : Move → Type 0 where
  f_ended : {c : Cell} {stack bound : List ℕ} → r ≡ turned_to (Ends (outcome_of (ends.Value c) steps first)) (lent H ws) stack bound
      → Follows T ws rows H high lets steps first ht r (ended c)
  f_stays : (b : Bool) {stack bound : List ℕ} → r ≡ turned_to (Ends (outcome_of ends.Stuck steps (first_by steps first b))) (lent H ws) stack bound
      → Follows T ws rows H high lets steps first ht r (stays (inside_mode b))
  f_halting : {h : Halt} (b : Bool) {stack bound : List ℕ}
      → (T.limit ≤ steps → r ≡ turned_to (Ends (outcome_of ends.More steps first)) (lent H ws) stack bound)
      → (steps < T.limit → r ≡ turned_to (Ends (outcome_of (ends.Halted h) (one_more steps) (first_by steps first b))) (lent H ws) stack bound)
      → Follows T ws rows H high lets steps first ht r (halting h (inside_mode b))
  f_makes : (b : Bool) {x : Bool} {p v c : ℕ} {st ρ : List Cell} {H' : Heap} {ht' : Hint} {stack bound stack' bound' : List ℕ}
      → (T.limit ≤ steps → r ≡ turned_to (Ends (outcome_of ends.More steps first)) (lent H ws) stack bound)
      → (steps < T.limit
      → r ≡ turned_to (Steps (state_of p v c (length st) (length ρ) x (one_more steps) (first_by steps first b) ht')) (lent H' ws) stack' bound')
      → HeapNext H H' → HintHolds H' T.low ht' → length stack' ≡ high → length bound' ≡ lets
      → Stands rows stack' bound' (suc steps) p v c st ρ → Follows T ws rows H high lets steps first ht r (makes (standing p st ρ) H' (inside_mode b))
  f_quiet : {x : Bool} {p v c : ℕ} {st ρ : List Cell} {stack' bound' : List ℕ}
      → r ≡ turned_to (Goes (state_of p v c (length st) (length ρ) x steps first ht)) (lent H ws) stack' bound'
      → length stack' ≡ high → length bound' ≡ lets
      → Stands rows stack' bound' steps p v c st ρ → Follows T ws rows H high lets steps first ht r (quiet (standing p st ρ))

-- the innermost bound value is forgotten
drop_follows : (S : Setting) (T : Terms) (ws rows stack bound : List ℕ) (H : Heap) (steps first : ℕ) (ht : Hint) (b : Bool) (p v c : ℕ) (st : List Cell)
    {ρ : List Cell} → TopIs stack v c st → Listed bound ρ → steps ≤ p → p < whole_rows rows → whole_rows rows < 2 ^ 62
    → Follows T ws rows H (length stack) (length bound) steps first ht
    (turned_to (unbound_next (state_of p v c (length st) (length ρ) b steps first ht)) (lent H ws) stack bound) (work_move S H drop (inside_mode b) p st ρ)
unfolding unbound_next
drop_follows S T ws rows stack bound H steps first ht b p v c st t listed_none l i n = f_stays b refl
drop_follows S T ws rows stack bound H steps first ht b p v c st t (listed_more {ρ = ρ} e w k) l i n =
    let two : suc (length ρ) - 1 ≡ length ρ = omega arith in
    let next : one_more p ≡ suc p = omega arith in
    f_quiet {x = b} {p = suc p} {v = v} {c = c} {st = st} {ρ = ρ} {stack' = stack} {bound' = bound}
    (rw (ne_eqb (suc (length ρ)) 0 (omega arith), two, next))
    refl
    refl
    (record { top = t; bounds = e; slow = omega arith; within = i })

module _ {S : Setting} {T : Terms} {ws structs types : List ℕ} (L : OnTerms S T ws structs types) (rows : List ℕ) (room : ℕ)
    (short : whole_rows rows < 2 ^ 62)
    (H : Heap) (hs : SmallHeap H) (hl : length H ≡ T.words) (stack bound : List ℕ) (stack_room : 2 * room ≤ length stack)
    (bound_room : 2 * room ≤ length bound)
    (steps first : ℕ) (ht : Hint) (hr : HintHolds H T.low ht) (b : Bool) (p : ℕ) (ρ : List Cell) (bounds : Listed bound ρ) (slow : steps ≤ p) where
  abbrev Goal : Turned → Move → Type 0
  Goal = Follows T ws rows H (length stack) (length bound) steps first ht

  -- the state that looks at the row, by what is on the stack
  abbrev at : (v c : ℕ) → List Cell → StepState
  at v c st = state_of p v c (length st) (length ρ) b steps first ht

  next_row : p < whole_rows rows → one_more p ≡ suc p
  next_row l = omega arith

  stuck_here : Goal (turned_to (Ends (outcome_of ends.Stuck steps (first_by steps first b))) (lent H ws) stack bound) (stays (inside_mode b))
  stuck_here = f_stays b refl

  -- a value is put on top
  push_follows : {v c : ℕ} (st : List Cell) (d : Cell) (code : ℕ) → TopIs stack v c st → code ≡ packed d.kind → Small d.kind → length st < room
      → p < whole_rows rows → Goal (on_stack_of (lent H ws) bound (pushed stack (at v c st) d.value code)) (quiet (standing (suc p) (d ∷ st) ρ))
  unfolding pushed
  push_follows {v} {c} st d code t e k l i =
      f_quiet {x = b} {p = suc p} {v = d.value} {c = packed d.kind} {st = d ∷ st} {ρ = ρ} {stack' = put_word stack (length st) v c} {bound' = bound}
      (rw (le-ltb (length stack / 2) (length st) (omega arith), e, next_row i, add-one (length st)))
      (length_put stack (length st) v c)
      refl
      (record { top = top_some (spilled room stack_room l t) k; bounds = bounds; slow = omega arith; within = i })

  -- what a redex gives takes its operands' place
  does_follows : {m : Changed} {d : Redex} {v c : ℕ} (st : List Cell) (stack' : List ℕ)
      → Does L H (state_of p v c (suc (length st)) (length ρ) b steps first ht) m d → Listed stack' st → length stack' ≡ length stack → p < whole_rows rows
      → Goal (turned_to m.turn m.table stack' bound) (redex_move (inside_mode b) p st ρ d)
  does_follows st stack' does_blocked e l i = f_stays b refl
  does_follows st stack' (does_halts {h}) e l i =
      f_halting {h = h} b {stack = stack'} {bound = bound} (λ f. rw (le-leb T.limit steps f)) (λ f. rw (lt-leb T.limit steps f))
  does_follows st stack' (does_gives {m = m} {H' = H'} {c = d} {r = r} q₀ q₁ n k sm) e l i =
      f_makes b {x = b} {p = suc p} {v = d.value} {c = packed d.kind} {st = d ∷ st} {ρ = ρ} {H' = H'} {ht' = r} {stack = stack'} {bound = bound}
      {stack' = stack'} {bound' = bound}
      (λ f. ap (λ (m : Changed). turned_to m.turn m.table stack' bound) (q₀ f))
      (λ f. ap (λ (m : Changed). turned_to m.turn m.table stack' bound) (q₁ f) ∙ rw (next_row i))
      n
      k
      l
      refl
      (record { top = top_some e sm; bounds = bounds; slow = omega arith; within = i })

  -- ---- the rows, by their tasks
  literal_follows : {v c : ℕ} (st : List Cell) (slot datum : ℕ) → TopIs stack v c st → length st < room → p < whole_rows rows
      → Goal (on_stack_of (lent H ws) bound (pushed stack (at v c st) datum (type_code_at types slot)))
      (quiet (standing (suc p) (cell datum (type_kind types slot) ∷ st) ρ))
  literal_follows st slot datum t l i =
      push_follows st (cell datum (type_kind types slot)) (type_code_at types slot) t (sym (type_exact L.setting slot))
      (rw (type_kind_lem L.setting slot) (L.setting.small slot)) l i

  fetch_follows : {v c : ℕ} (st : List Cell) (k : ℕ) → TopIs stack v c st → length st < room → p < whole_rows rows
      → Goal (on_stack_of (lent H ws) bound (fetched stack bound (at v c st) k)) (quiet (standing (suc p) (get_or ρ k nought ∷ st) ρ))
  unfolding fetched packed
  fetch_follows {v} {c} st k t l i = go (dec_le (length ρ) k)
    where
      go : Dec (length ρ ≤ k)
          → Goal (on_stack_of (lent H ws) bound (fetched stack bound (at v c st) k)) (quiet (standing (suc p) (get_or ρ k nought ∷ st) ρ))
      go (yes m) =
          rw (le-leb (length ρ) k m, get_or-eq_default ρ nought {n = k} m) (push_follows st nought 1 t refl small_int l i)
      go (no m) =
          let w = listed_at k bounds (omega arith) in
          rw (lt-leb (length ρ) k (omega arith), w.value_is)
          (push_follows st (get_or ρ k nought) (lent_number bound (length ρ - k) 1) t w.code_is (listed_small k bounds (omega arith)) l i)

  allot_follows : {v c : ℕ} (st : List Cell) (κ : Kind) (datum : ℕ) → TopIs stack v c st → datum ≡ packed κ → Small κ → length st < room
      → p < whole_rows rows
      → Goal (beside_bound bound (allotted structs types T (lent H ws) stack (at v c st) datum)) (redex_move (inside_mode b) p st ρ (malloc_redex S H κ))
  unfolding allotted
  allot_follows {v} {c} st κ datum t e k l i =
      rw (le-ltb (length stack / 2) (length st) (omega arith), e, add-one (length st))
      (does_follows st (put_word stack (length st) v c)
      (malloc_does L H hs hl (state_of p v c (suc (length st)) (length ρ) b steps first ht) κ hr k)
      (spilled room stack_room l t) (length_put stack (length st) v c) i)

  apply_follows : {v c : ℕ} {st : List Cell} (o : One) (slot datum : ℕ) → OneOperands types o slot datum → TopIs stack v c st → p < whole_rows rows
      → Goal (turned_to (applied structs types T (lent H ws) (at v c st) (one_task o) slot datum) (lent H ws) stack bound)
      (work_move S H (apply o) (inside_mode b) p st ρ)
  unfolding applied
  apply_follows o slot datum w top_none i = stuck_here
  apply_follows o slot datum w (top_some {st = st} {c = d} e k) i =
      rw (ne_eqb (suc (length st)) 0 (omega arith))
      (does_follows st stack
      (one_does L H (state_of p d.value (packed d.kind) (suc (length st)) (length ρ) b steps first ht) hr (one_as L H hs hl o d slot datum w k))
      e refl i)

  join_follows : {v c : ℕ} {st : List Cell} (o : Act) → TopIs stack v c st → p < whole_rows rows
      → Goal (on_heap_of stack bound (joined_row T (lent H ws) stack (at v c st) o)) (work_move S H (join o) (inside_mode b) p st ρ)
  unfolding joined_row
  join_follows o top_none i = stuck_here
  join_follows o (top_some listed_none k) i = stuck_here
  join_follows o (top_some {c = d} (listed_more {ρ = st} {c = e} l w k) k') i =
      let two : suc (suc (length st)) - 1 ≡ suc (length st) = omega arith in
      rw (le-ltb (suc (suc (length st))) 2 (omega arith), two, w.value_is, w.code_is)
      (does_follows st stack
      (settled_does L H (state_of p d.value (packed d.kind) (suc (length st)) (length ρ) b steps first ht) hr
      (act_as L H hs hl Cut o e d k k'))
      l refl i)

  hold_follows : {v c : ℕ} {st : List Cell} → TopIs stack v c st → length ρ < room → p < whole_rows rows
      → Goal (on_bound_of (lent H ws) stack (bound_next T.limit stack bound (at v c st))) (work_move S H hold (inside_mode b) p st ρ)
  unfolding bound_next
  hold_follows top_none l i = stuck_here
  hold_follows (top_some {st = st} {c = d} e k) l i =
      let two : suc (length st) - 1 ≡ length st = omega arith in
      let some : eqb (suc (length st)) 0 ≡ false = ne_eqb (suc (length st)) 0 (omega arith) in
      let fits : leb (length bound / 2) (length ρ) ≡ false = lt-leb (length bound / 2) (length ρ) (omega arith) in
      f_makes b {x = b} {p = suc p} {v = lent_number stack (length st) 0} {c = lent_number stack (length st) 1} {st = st} {ρ = d ∷ ρ} {H' = H} {ht' = ht}
      {stack = stack} {bound = bound} {stack' = stack} {bound' = put_word bound (suc (length ρ)) d.value (packed d.kind)}
      (λ f. rw (some, fits, le-leb T.limit steps f))
      (λ f. rw (some, fits, lt-leb T.limit steps f, two, add-one (length ρ), next_row i))
      (heap_stays hs)
      hr
      refl
      (length_put bound (suc (length ρ)) d.value (packed d.kind))
      (record { top = uncovered e; bounds = listed_put d (omega arith) k bounds; slow = omega arith; within = i })

  stop_follows : {v c : ℕ} {st : List Cell} → TopIs stack v c st
      → Goal (turned_to (stopped_at (at v c st)) (lent H ws) stack bound) (work_move S H stop (inside_mode b) p st ρ)
  unfolding stopped_at
  stop_follows top_none = stuck_here
  stop_follows (top_some {st = st} {c = d} e k) =
      f_ended {c = d} {stack = stack} {bound = bound} (rw (ne_eqb (suc (length st)) 0 (omega arith), round_trip k))

  -- a row that does its task; only a row that stops may stand behind the last one
  pub task_follows : {v c : ℕ} (st : List Cell) (t : Task) (slot datum : ℕ) → TopIs stack v c st
      → ((work_of types t slot datum ≡ stop → ⊥) → p < whole_rows rows)
      → RowFits room (length st) (length ρ) datum (work_of types t slot datum)
      → Goal (task_turn structs types T (lent H ws) stack bound (at v c st) t slot datum) (work_move S H (work_of types t slot datum) (inside_mode b) p st ρ)
  unfolding task_turn
  task_follows st task.Stop slot datum t i f = stop_follows t
  task_follows st task.Literal slot datum t i (fits_push l) = literal_follows st slot datum t l (i (λ z. differ cc))
  task_follows st task.Variable slot datum t i (fits_fetch l) = fetch_follows st slot t l (i (λ z. differ cc))
  task_follows st task.Malloc slot datum t i (fits_take l e) = allot_follows st (unpacked datum) datum t e (unpacked_small datum) l (i (λ z. differ cc))
  task_follows st task.Unchecked slot datum t i f = apply_follows unchecked slot datum tt t (i (λ z. differ cc))
  task_follows st task.Cast slot datum t i f = apply_follows (cast (type_kind types slot)) slot datum refl t (i (λ z. differ cc))
  task_follows st task.Read slot datum t i f = apply_follows read slot datum tt t (i (λ z. differ cc))
  task_follows st task.Field slot datum t i f = apply_follows (field datum) slot datum refl t (i (λ z. differ cc))
  task_follows st (task.Acts o) slot datum t i f = join_follows o t (i (λ z. differ cc))
  task_follows st task.Bind slot datum t i (fits_hold l) = hold_follows t l (i (λ z. differ cc))
  task_follows {v} {c} st task.Unbind slot datum t i f =
      drop_follows S T ws rows stack bound H steps first ht b p v c st t bounds slow (i (λ z. differ cc)) short
