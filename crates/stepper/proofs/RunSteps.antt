-- The code runs the definition: what it answers and the heap that it leaves are those of the run by replacement.
use Rattle.std.proofs.Common.{◌≡◌, ℕ, zero, suc, ◌+◌, ◌-◌, ◌*◌, ◌^◌, ◌<◌, ◌≤◌, Bool, true, false, List, [], length, refl, ap, ◌∙◌, add-zero, zero-add}
use Rattle.std.proofs.Common.{add-one, arith, ne_eqb}
use Rattle.cells.specs.Heap.{Heap}
use Rattle.cells.specs.Lent.{lent}
use Rattle.cells.specs.declared.Cell.{Cell}
use Rattle.calculus.specs.Setting.{Setting}
use Rattle.calculus.specs.Expr.{Expr}
use Rattle.calculus.specs.Steps.{Step}
use Rattle.calculus.specs.Run.{Result, outcome_of, first_at, first_after, tick, at_limit, onward, run}
use Rattle.calculus.specs.declared.Outcome.{Outcome}
use Rattle.image.specs.Shape.{height}
use Rattle.tables.specs.Rows.{whole_rows, inside_mode}
use Rattle.stepper.specs.Moves.{standing, Move}
use Rattle.yields.specs.declared.Hint.{Hint}
use Rattle.stepper.specs.declared.StepState.{StepState}
use Rattle.yields.specs.declared.Terms.{Terms}
use Rattle.stepper.specs.declared.StepTurn.TheVariants.{Steps}
use Rattle.yields.specs.Malloc.{one_more}
use Rattle.stepper.specs.States.{Turned, turned_to, state_of, first_by}
use Rattle.yields.specs.Malloc.{start_hint}
use Rattle.stepper.specs.Turns.{RunEnd, run_end, flow_of, after_step, drives, step_run}
use Rattle.stepper.specs.Ready.{StepReady}
use Rattle.stepper.specs.Entry.{RunAs, StepRan}
use Rattle.stepper.proofs.Continuations.{Sim}
use Rattle.stepper.proofs.Advances.{MeetsStep, m_ended, m_stays, m_halting, m_makes, starts}
use Rattle.stepper.proofs.Listed.{listed_none}
use Rattle.yields.proofs.GivesAs.{OnTerms}
use Rattle.stepper.proofs.Follows.{Stands, top_none, Follows, f_ended, f_stays, f_halting, f_makes, f_quiet}
use Rattle.stepper.proofs.NextStep.{Lends, next_step}

-- the number of the first unchecked step, where s steps with first unchecked step f came before those counted by q
first_later : (s f q : ℕ) → ℕ
first_later s (suc f) q = suc f
first_later s zero zero = 0
first_later s zero (suc q) = s + suc q

-- the outcome of a whole run, from the steps counted and the outcome of the rest
abbrev whole : (steps first : ℕ) → Outcome → Outcome
whole steps first o = outcome_of o.end (steps + o.steps) (first_later steps first o.first)

first_none : (s f : ℕ) → f ≡ first_later s f 0
unfolding first_later
first_none s zero = refl
first_none s (suc f) = refl

first_now_lem : (s f : ℕ) (b : Bool) → s < 2 ^ 63 → first_by s f b ≡ first_later s f (first_at (inside_mode b))
unfolding first_later
first_now_lem s zero false l = refl
first_now_lem s zero true l = let e : one_more s ≡ s + 1 = omega arith in e
first_now_lem s (suc f) b l = rw (ne_eqb (suc f) 0 (omega arith))

first_later_lem : (s f : ℕ) (b : Bool) (q : ℕ) → s < 2 ^ 63 → first_later (suc s) (first_by s f b) q ≡ first_later s f (first_after (inside_mode b) q)
unfolding first_later
first_later_lem s zero false zero l = refl
first_later_lem s zero false (suc q) l = omega arith
first_later_lem s zero true q l = let e : one_more s ≡ suc s = omega arith in rw (e, add-one s)
first_later_lem s (suc f) b q l = rw (ne_eqb (suc f) 0 (omega arith))

-- what the code answers is the rest of a run after so many steps
record Ends (words : ℕ) (ws : List ℕ) (x : RunEnd) (steps first : ℕ) (r : Result) : Type 0 where
  outcome_same : x.outcome ≡ whole steps first r.outcome
  heap_same : x.heap ≡ lent r.heap ws
  heap_long : length r.heap ≡ words

-- a step of the code is a step before the rest
step_first : {words : ℕ} {ws : List ℕ} (x : RunEnd) (s f : ℕ) (b : Bool) (r : Result) → s < 2 ^ 63 → Ends words ws x (suc s) (first_by s f b) r
    → Ends words ws x s f (tick (inside_mode b) r)
step_first x s f b r l a =
    let e : suc s + r.outcome.steps ≡ s + suc r.outcome.steps = omega arith in
    record {
      outcome_same = a.outcome_same ∙ rw (e, first_later_lem s f b r.outcome.first l);
      heap_same = a.heap_same;
      heap_long = a.heap_long;
    }

module _ {S : Setting} {T : Terms} {ws structs types : List ℕ} (L : OnTerms S T ws structs types) (rows : List ℕ) (room : ℕ)
    (short : whole_rows rows < 2 ^ 62) where
  -- from such a state the code ends as the definition's run does
  record Runs (n : ℕ) : Type 0 where
    from : (p v c : ℕ) (st ρ : List Cell) (e : Expr) (stack bound : List ℕ) (x : Bool) (H : Heap) (steps first : ℕ) (ht : Hint)
        → Lends T room H ht (length stack) (length bound) → Stands rows stack bound steps p v c st ρ → Sim types rows room (standing p st ρ) e
        → T.limit - steps ≡ n
        → Ends T.words ws (drives rows structs types T n (state_of p v c (length st) (length ρ) x steps first ht) (lent H ws) stack bound) steps first
        (run S n H e)

  module _ (H : Heap) (long : length H ≡ T.words) (steps first : ℕ) (ht : Hint) (few : steps < 2 ^ 63) where
    -- no step is left
    at_end : {r : Turned} {m : Move} {t : Step} (high lets : ℕ) (go : StepState → (ws stack bound : List ℕ) → RunEnd) → T.limit ≤ steps
        → Follows T ws rows H high lets steps first ht r m → MeetsStep types rows room m t
        → Ends T.words ws (after_step (flow_of r) go) steps first (at_limit H t)
    at_end high lets go l (f_ended q) m_ended =
        rw q (record { outcome_same = rw (add-zero, ← first_none steps first); heap_same = refl; heap_long = long })
    at_end high lets go l (f_stays b q) m_stays =
        rw q (record { outcome_same = rw (add-zero, first_now_lem steps first b few); heap_same = refl; heap_long = long })
    at_end high lets go l (f_halting b q₀ q₁) m_halting =
        rw (q₀ l) (record { outcome_same = rw (add-zero, ← first_none steps first); heap_same = refl; heap_long = long })
    at_end high lets go l (f_makes b q₀ q₁ n k lh ll s) (m_makes sim) =
        rw (q₀ l) (record { outcome_same = rw (add-zero, ← first_none steps first); heap_same = refl; heap_long = long })
    at_end high lets go l (f_quiet q lh ll s) m = elim m [ ]

    -- n steps are left behind this one
    onwards : {r : Turned} {m : Move} {t : Step} (n high lets : ℕ) → T.limit - steps ≡ suc n → Runs n → 2 * room ≤ high → 2 * room ≤ lets
        → Follows T ws rows H high lets steps first ht r m → MeetsStep types rows room m t
        → Ends T.words ws (after_step (flow_of r) (drives rows structs types T n)) steps first (onward H t (run S n))
    onwards n high lets e ih rs rb (f_ended q) m_ended =
        rw q (record { outcome_same = rw (add-zero, ← first_none steps first); heap_same = refl; heap_long = long })
    onwards n high lets e ih rs rb (f_stays b q) m_stays =
        rw q (record { outcome_same = rw (add-zero, first_now_lem steps first b few); heap_same = refl; heap_long = long })
    onwards n high lets e ih rs rb (f_halting b q₀ q₁) m_halting =
        let k : one_more steps ≡ steps + 1 = omega arith in
        rw (q₁ (omega arith)) (record { outcome_same = rw (first_now_lem steps first b few, k); heap_same = refl; heap_long = long })
    onwards {r} n high lets e ih rs rb (f_makes b {x = x} {p = p} {v = v} {c = c} {st = st} {ρ = ρ} {H' = H'} {ht' = ht'} {stack' = stack'}
        {bound' = bound'} q₀ q₁ h k lh ll s) (m_makes {e = e'} sim) =
        let one : one_more steps ≡ suc steps = omega arith in
        let q : r ≡ turned_to (Steps (state_of p v c (length st) (length ρ) x (suc steps) (first_by steps first b) ht')) (lent H' ws) stack' bound' =
        q₁ (omega arith)
        ∙ ap (λ (n : ℕ). turned_to (Steps (state_of p v c (length st) (length ρ) x n (first_by steps first b) ht')) (lent H' ws) stack' bound') one in
        rw q
        (step_first _ steps first b _ few
        (ih.from p v c st ρ e' stack' bound' x H' (suc steps) (first_by steps first b) ht'
        (record {
          heap_small = h.small;
          heap_long = h.long ∙ long;
          hint_holds = k;
          stack_room = rw lh rs;
          bound_room = rw ll rb;
        })
        s
        sim
        (omega arith)))
    onwards n high lets e ih rs rb (f_quiet q lh ll s) m = elim m [ ]

  runs : (n : ℕ) → Runs n
  unfolding drives run
  runs zero =
      record {
        from = λ p v c st ρ e stack bound x H steps first ht M s sim l.
            let k = next_step L rows room short H steps first ht stack bound x M s sim in
            let few : steps < 2 ^ 63 = omega (arith, s.slow, s.within, short) in
            at_end H M.heap_long steps first ht few (length stack) (length bound) _ (omega arith) k.follows k.meets;
      }
  runs (suc n) =
      record {
        from = λ p v c st ρ e stack bound x H steps first ht M s sim l.
            let k = next_step L rows room short H steps first ht stack bound x M s sim in
            let few : steps < 2 ^ 63 = omega (arith, s.slow, s.within, short) in
            onwards H M.heap_long steps first ht few n (length stack) (length bound) l (runs n) M.stack_room M.bound_room k.follows k.meets;
      }

-- ---- from the start
whole_start : (o : Outcome) → whole 0 0 o ≡ o
unfolding first_later
whole_start o = rw zero-add (ap (outcome_of o.end o.steps) (go o.first))
  where
    go : (f : ℕ) → first_later 0 0 f ≡ f
    go zero = refl
    go (suc f) = zero-add (suc f)

-- where the lent numbers hold a script, the code runs it as the definition says; the rows are a slice's, and so not too many
pub runs_script : {S : Setting} {T : Terms} {H : Heap} {e : Expr} {ws heap stack bound rows structs types : List ℕ} → whole_rows rows < 2 ^ 62
    → StepReady S T H e ws heap stack bound rows structs types
    → RunAs T.words ws (run S T.limit H e) (step_run rows structs types T heap stack bound).outcome
    (step_run rows structs types T heap stack bound).heap
unfolding step_run
runs_script {S} {T} {H} {e} {ws} {heap} {stack} {bound} {rows} {structs} {types} short r =
    let L : OnTerms S T ws structs types = record {
      setting = r.setting_held;
      width_is = r.width_is;
      low_is = r.low_is;
      high_is = r.high_is;
      low_above = r.low_above;
      high_within = r.high_within;
      heap_room = r.heap_room;
      words_few = r.words_few;
    } in
    let M : Lends T (height e) H (start_hint T) (length stack) (length bound) = record {
      heap_small = r.heap_small;
      heap_long = r.heap_long;
      hint_holds = record { from_low = omega arith; none = λ k a z p n v. absurd (omega arith) };
      stack_room = r.stack_room;
      bound_room = r.bound_room;
    } in
    let s : Stands rows stack bound 0 0 0 0 [] [] = record { top = top_none; bounds = listed_none; slow = omega arith; within = omega arith } in
    let sim : Sim types rows (height e) (standing 0 [] []) e = starts types rows (height e) r.expr_scoped (omega arith) r.rows_held in
    let a = (runs L rows (height e) short T.limit).from 0 0 0 [] [] e stack bound false H 0 0 (start_hint T) M s sim (omega arith) in
    rw r.heap_held
    (record { outcome = a.outcome_same ∙ whole_start _; heap_held = a.heap_same; heap_long = a.heap_long })

-- so the model's steps keep the promise of `run`
pub as_ran : {rows structs types heap stack bound heap' stack' bound' : List ℕ} {T : Terms} {o : Outcome} → whole_rows rows < 2 ^ 62
    → run_end o heap' stack' bound' ≡ step_run rows structs types T heap stack bound
    → StepRan rows structs types T heap stack bound o heap' stack' bound'
as_ran short q =
    record {
      model = q;
      definition = λ S H e ws r.
          let d = runs_script short r in
          record {
            outcome = ap (λ (x : RunEnd). x.outcome) q ∙ d.outcome;
            heap_held = ap (λ (x : RunEnd). x.heap) q ∙ d.heap_held;
            heap_long = d.heap_long;
          };
    }
