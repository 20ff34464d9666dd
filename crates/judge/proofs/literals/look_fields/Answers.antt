-- The goals of `judge::literals::look_fields` that the check leaves.
use mathlib.Core.Path.{◌≡◌, sym, ◌∙◌}
use mathlib.Core.List.{List}
use Prim.Native.Nat.{ℕ, suc, ◌+◌, ◌-◌, ◌<◌, ◌≤◌}
use native.Mathlib.Omega.{arith}
use borrow.Author.Tests.{eq-eqb, ne_eqb}
use Rattle.judge.specs.Rows.{entry_at}
use Rattle.judge.specs.Marks.{seen, alone, marked}
use Rattle.judge.specs.Literals.{Looking, on, off, claim, look_fields}
use Rattle.judge.proofs.literals.look_fields.Invariants.{Passing}
use Rattle.judge.proofs.literals.look_fields.Goals as goal

module _ {structs types cells : List ℕ} {code first count : ℕ} {start : Looking} {marks queue : List ℕ} {end i : ℕ}
    (m : Passing structs types cells code first count start marks queue end i) where
  done : i ≤ count → count ≤ i → on (seen marks queue end) ≡ start
  unfolding look_fields
  done b h = let f : count - i ≡ 0 = omega arith in sym (m.same ∙ rw f)

  module _ (h : i < count) {kind e : ℕ} (is_kind : kind ≡ claim structs types code i) (is_e : e ≡ entry_at cells (first + i) 2) where
    stops : (e ≡ kind → ⊥) → off marks queue ≡ start
    unfolding look_fields
    stops n =
        let f : count - i ≡ suc (count - (i + 1)) = omega arith in
        sym (m.same ∙ rw (f, ← is_e, ← is_kind, ne_eqb e kind n))

    turn : e ≡ kind → {marks' queue' : List ℕ} {end' : ℕ} → seen marks' queue' end' ≡ marked kind alone (first + i) (seen marks queue end)
        → Passing structs types cells code first count start marks' queue' end' (i + 1)
    unfolding look_fields
    turn q is =
        let f : count - i ≡ suc (count - (i + 1)) = omega arith in
        record { same = m.same ∙ rw (f, ← is_e, ← is_kind, eq-eqb e kind q, ← is) }

pub returns-then-entry-kind : goal.returns-then-entry-kind
returns-then-entry-kind c = stops c.loop-i.invariant c.loop-i-test.true c.claim-kind.ensures c.entry.ensures c.if-entry-kind.true

pub loop-i-preserved : goal.loop-i-preserved
loop-i-preserved c = turn c.loop-i.invariant c.loop-i-test.true c.claim-kind.ensures c.entry.ensures c.if-entry-kind.false c.mark-end.ensures

pub returns : goal.returns
returns c = done c.loop-i.invariant c.loop-i.auto.i-end c.loop-i-test.false
