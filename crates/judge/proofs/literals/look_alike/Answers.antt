-- The goals of `judge::literals::look_alike` that the check leaves.
use mathlib.Core.Path.{◌≡◌, refl, sym, ◌∙◌}
use mathlib.Core.List.{List}
use Prim.Native.Nat.{ℕ, zero, suc, ◌+◌, ◌-◌, ◌<◌, ◌≤◌}
use native.Mathlib.Omega.{arith}
use lib.ListN.{get_or, set}
use borrow.Author.Tests.{lt-ltb, le-ltb, lt-leb, le-leb, eq-eqb, ne_eqb}
use Rattle.judge.specs.Rows.{entry_at}
use Rattle.judge.specs.Marks.{seen, marked}
use Rattle.judge.specs.Literals.{Looking, on, off, look_alike}
use Rattle.judge.proofs.literals.look_alike.Invariants.{Passing}
use Rattle.judge.proofs.literals.look_alike.Goals as goal

module _ {cells : List ℕ} {code stop : ℕ} {start : Looking} {marks queue : List ℕ} {end j left : ℕ} where
  done : Passing cells code stop start marks queue end j left → left ≤ 0 → on (seen marks queue end) ≡ start
  unfolding look_alike
  done m h = sym (m.same ∙ go m.deep)
    where
      go : (deep : ℕ) → look_alike cells code deep left j (seen marks queue end) ≡ on (seen marks queue end)
      go zero = refl
      go (suc deep) = rw (le-ltb 0 left h)

  module _ (m : Passing cells code stop start marks queue end j left) (h : 0 < left) {e : ℕ} (is_e : e ≡ entry_at cells j 2) where
    -- the pass meets at least one entry
    opened : start ≡ look_alike cells code (suc (m.deep - 1)) left j (seen marks queue end)
    opened = let f : m.deep ≡ suc (m.deep - 1) = omega (arith, m.enough) in rw f at m.same

    stops : (e ≡ code → ⊥) → off marks queue ≡ start
    unfolding look_alike
    stops n = sym (opened ∙ rw (lt-ltb 0 left h, ← is_e, ne_eqb e code n))

    module _ (q : e ≡ code) {known : ℕ} (is_Known : known ≡ get_or marks j 0) where
      new : known ≡ 0 → {marks' queue' : List ℕ} {end' : ℕ} → seen marks' queue' end' ≡ marked code left j (seen marks queue end)
          → Passing cells code stop start marks' queue' end' (j + 1) (left - 1)
      unfolding look_alike
      new z is =
          record {
            far = omega (arith, m.far);
            deep = m.deep - 1;
            enough = omega (arith, m.enough);
            small = omega (arith, m.small);
            same = opened ∙ rw (lt-ltb 0 left h, ← is_e, eq-eqb e code q, ← is_Known, z, ← is);
          }

      module _ (n : known ≡ 0 → ⊥) where
        rest_known : left ≤ known → on (seen marks queue end) ≡ start
        unfolding look_alike
        rest_known a = sym (opened ∙ rw (lt-ltb 0 left h, ← is_e, eq-eqb e code q, ← is_Known, ne_eqb known 0 n, le-leb left known a))

        raised : known < left → {marks' : List ℕ} → marks' ≡ set marks j left
            → Passing cells code stop start marks' queue end (j + known) (left - known)
        unfolding look_alike
        raised a is =
            record {
              far = omega (arith, m.far);
              deep = m.deep - 1;
              enough = omega (arith, m.enough, n);
              small = omega (arith, m.small);
              same = opened ∙ rw (lt-ltb 0 left h, ← is_e, eq-eqb e code q, ← is_Known, ne_eqb known 0 n, lt-leb left known a, is);
            }

pub returns-then-entry-code : goal.returns-then-entry-code
returns-then-entry-code c = stops c.loop-left.invariant c.loop-left-test.true c.entry.ensures c.if-entry-code.true

pub loop-left-preserved-then-known-eq0 : goal.loop-left-preserved-then-known-eq0
loop-left-preserved-then-known-eq0 c = new c.loop-left.invariant c.loop-left-test.true c.entry.ensures c.if-entry-code.false (c.from-known.ensures ∙ c.mark_at.ensures) c.if-known-eq0.true c.mark-end.ensures

pub returns-then-left-known : goal.returns-then-left-known
returns-then-left-known c = rest_known c.loop-left.invariant c.loop-left-test.true c.entry.ensures c.if-entry-code.false (c.from-known.ensures ∙ c.mark_at.ensures) c.if-known-eq0.false c.if-left-known.true

pub loop-left-preserved : goal.loop-left-preserved
loop-left-preserved c = raised c.loop-left.invariant c.loop-left-test.true c.entry.ensures c.if-entry-code.false (c.from-known.ensures ∙ c.mark_at.ensures) c.if-known-eq0.false c.if-left-known.false c.put_mark.ensures

pub returns : goal.returns
returns c = done c.loop-left.invariant c.loop-left-test.false
