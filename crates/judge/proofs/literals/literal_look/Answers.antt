-- The goals of `judge::literals::literal_look` that the check leaves.
use mathlib.Core.Path.{◌≡◌, refl, sym, ◌∙◌}
use mathlib.Core.List.{List}
use Prim.Native.Nat.{ℕ, zero, suc, ◌+◌, ◌<◌, ◌≤◌}
use native.Mathlib.Omega.{arith}
use lib.ListN.{length, get_or}
use borrow.Author.Tests.{lt-ltb, le-ltb}
use Rattle.judge.specs.Rows.{entry_at}
use Rattle.judge.specs.Marks.{seen}
use Rattle.judge.specs.Literals.{Looking, on, off, then_look, look_at, drain, literal_look}
use Rattle.judge.proofs.Room.{look_after, ends_within}
use Rattle.judge.proofs.literals.literal_look.Invariants.{Draining}
use Rattle.judge.proofs.literals.literal_look.Goals as goal

module _ {structs types cells : List ℕ} {start : Looking} {marks queue : List ℕ} {head end held kind : ℕ}
    (m : Draining structs types cells start marks queue head end held kind) {marks' queue' : List ℕ} where
  stops : off marks' queue' ≡ look_at structs types cells held kind (seen marks queue end) → off marks' queue' ≡ start
  stops e = sym (m.same ∙ rw (← e))

  module _ {next : ℕ} (e : on (seen marks' queue' next) ≡ look_at structs types cells held kind (seen marks queue end)) where
    done : next ≤ head → on (seen marks' queue' next) ≡ start
    unfolding drain
    done h = sym (m.same ∙ rw (← e) (go m.deep))
      where
        go : (deep : ℕ) → drain structs types cells deep head (seen marks' queue' next) ≡ on (seen marks' queue' next)
        go zero = refl
        go (suc deep) = rw (le-ltb head next h)

    -- the queue still ends within its numbers
    still : next ≤ length queue'
    still = ends_within (seen marks queue end) (seen marks' queue' next) _ (look_after structs types cells _ _ (seen marks queue end)) e m.ends

    -- the entry that `head` is at is looked at next
    turn : head < next → length queue' ≡ length queue → {j held' kind' : ℕ} → j ≡ get_or queue' head 0
        → held' ≡ entry_at cells j 1 → kind' ≡ entry_at cells j 2
        → Draining structs types cells start marks' queue' (head + 1) next held' kind'
    unfolding drain
    turn h l {j} {held'} {kind'} is-j is_held_lem is_kind = go m.deep m.enough m.same
      where
        go : (deep : ℕ) → length queue ≤ head + deep
            → start ≡ then_look (look_at structs types cells held kind (seen marks queue end)) (drain structs types cells deep head)
            → Draining structs types cells start marks' queue' (head + 1) next held' kind'
        go zero b f = absurd (omega (arith, still))
        go (suc deep) b f =
            record {
              ends = still;
              deep = deep;
              enough = omega arith;
              same = f ∙ rw (← e, lt-ltb head next h, is_held_lem, is_kind, is-j);
            }

pub loop-end-init : goal.loop-end-init
unfolding literal_look
loop-end-init c = record { ends = c.requires; deep = length c.args.queue.now; enough = omega arith; same = refl }

pub returns-then-end-head : goal.returns-then-end-head
returns-then-end-head c = done c.loop-end.invariant (rw c.in_ok-end.was at c.look_at.ensures) c.if-end-head.true

pub loop-end-smaller : goal.loop-end-smaller
loop-end-smaller c = let l = still c.loop-end.invariant (rw c.in_ok-end.was at c.look_at.ensures) in omega (arith, l, c.if-end-head.false, c.look_at.auto.queue, c.loop-end.auto.queue)

pub loop-end-preserved : goal.loop-end-preserved
loop-end-preserved c = turn c.loop-end.invariant (rw c.in_ok-end.was at c.look_at.ensures) c.if-end-head.false c.look_at.auto.queue c.word-j.ensures c.entry-held.ensures c.entry-kind.ensures
