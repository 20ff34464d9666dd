-- The goals of `cells::lent::lowest_run` that the check leaves.
use Rattle.std.proofs.Common.{◌≡◌, ℕ, suc, ◌+◌, ◌-◌, ◌<◌, ◌≤◌, Bool, true, false, sym, refl, ◌∙◌, arith, rules, Some, None}
use Rattle.choice.specs.Choice.{all_from}
use Rattle.cells.specs.Free.{lowest_in}
use Rattle.cells.proofs.Free.{run_more, skip_to, begins, no_room}
use Rattle.cells.proofs.lent.lowest_run.Invariants.{Counting}
use Rattle.cells.proofs.lent.lowest_run.Goals as goal
use Rattle.cells.proofs.lent.lowest_run.Goals.{else-is_undefined, then-is_undefined+else-run-k}

module _ (free : ℕ → Bool) (k low last : ℕ) where
  starts : (k ≡ 0 → ⊥) → Counting free k low last low 0
  unfolding all_from
  starts n = let e : low - 0 ≡ low = omega arith in record { few = omega arith; back = omega arith; behind = refl; same = rw e }

  -- a run of no words begins at once
  none_sought : k ≡ 0 → low < last + 2 → Some low ≡ lowest_in free k low last
  unfolding all_from
  none_sought e l = sym (begins free k low last (omega arith) (rw e))

  none_left : last + 2 ≤ low → None ≡ lowest_in free k low last
  none_left l = sym (no_room free k low last (omega arith))

  module _ (a run : ℕ) (m : Counting free k low last a run) where
    longer : free a ≡ true → all_from free (run + 1) (a - run) ≡ true
    longer h =
        let e : (a - run) + run ≡ a = omega arith in
        let t : run + 1 ≡ suc run = omega arith in
        rw t (run_more free run (a - run) m.behind (rw e h))

    counts : (run + 1 ≡ k → ⊥) → free a ≡ true → Counting free k low last (a + 1) (run + 1)
    counts n h =
        let s : (a + 1) - (run + 1) ≡ a - run = omega arith in
        record { few = omega arith; back = omega arith; behind = rw s (longer h); same = rw s m.same }

    anew : free a ≡ false → Counting free k low last (a + 1) 0
    unfolding all_from
    anew h =
        let s : (a + 1) - 0 ≡ a + 1 = omega arith in
        record {
          few = omega arith;
          back = omega arith;
          behind = refl;
          same = rw s (m.same ∙ skip_to free k (a - run) a last (omega arith) (omega arith) h);
        }

    finds : run + 1 ≡ k → free a ≡ true → a < last + 1 → Some (a + 1 - k) ≡ lowest_in free k low last
    finds e h l =
        let s : (a + 1) - k ≡ a - run = omega arith in
        rw s (sym (m.same ∙ begins free k (a - run) last (omega arith) (rw (← e) (longer h))))

    finds_none : last + 1 ≤ a → None ≡ lowest_in free k low last
    finds_none l = sym (m.same ∙ no_room free k (a - run) last (omega arith))

pub returns-then-low-last : goal.returns-then-low-last
returns-then-low-last c = rw (← c.min-last.ensures) (none_sought _ _ _ _ c.if-k-eq0.true c.if-low-last.true)

pub returns-else-low-last : goal.returns-else-low-last
returns-else-low-last c = rw (← c.min-last.ensures) (none_left _ _ _ _ c.if-low-last.false)

pub loop-a-init : goal.loop-a-init
loop-a-init c = starts _ _ _ _ (search rules)

pub returns-then-run-k : goal.returns-then-run-k
returns-then-run-k c =
    rw (← c.min-last.ensures)
    (finds _ _ _ _ _ _ c.loop-a.invariant c.if-run-k.true (sym c.is_undefined.ensures ∙ c.if-is_undefined.true) (search rules))

pub loop-a-preserved : goal.loop-a-preserved
loop-a-preserved c =
    elim c.if-is_undefined.branch [
      | then-is_undefined+else-run-k w ↦
          rw w.run-is (counts _ _ _ _ _ _ c.loop-a.invariant w.if-run-k.false (sym c.is_undefined.ensures ∙ w.if-is_undefined.true))
      | else-is_undefined w ↦
          rw w.run-is (anew _ _ _ _ _ _ c.loop-a.invariant (sym c.is_undefined.ensures ∙ w.if-is_undefined.false))
    ]

pub returns : goal.returns
returns c = rw (← c.min-last.ensures) (finds_none _ _ _ _ _ _ c.loop-a.invariant (search rules))
