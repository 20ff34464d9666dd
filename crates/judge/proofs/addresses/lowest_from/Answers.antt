-- The goals of `judge::addresses::lowest_from` that the check leaves.
use mathlib.Core.Path.{◌≡◌, refl, sym, ◌∙◌}
use mathlib.Core.List.{List}
use Prim.Native.Nat.{ℕ, zero, suc, ◌+◌, ◌<◌, ◌≤◌}
use native.Mathlib.Omega.{arith}
use borrow.Author.Tests.{lt-ltb, le-ltb}
use Rattle.judge.specs.Rows.{entry_at}
use Rattle.judge.specs.Addresses.{middle, lowest_from}
use Rattle.judge.proofs.addresses.lowest_from.Invariants.{Searching}
use Rattle.judge.proofs.addresses.lowest_from.Goals as goal

module _ (cells : List ℕ) (address n : ℕ) where
  ends : (deep low high : ℕ) → high ≤ low → lowest_from cells address deep low high ≡ low
  unfolding lowest_from
  ends zero low high h = refl
  ends (suc deep) low high h = rw (le-ltb low high h)

  done : (low high : ℕ) → Searching cells address n low high → high ≤ low → low ≡ lowest_from cells address n 0 n
  done low high m h = sym (m.same ∙ ends m.deep low high h)

  -- a turn of the loop, with the fuel opened
  up : (deep low high : ℕ) → high ≤ n → high ≤ low + deep → lowest_from cells address n 0 n ≡ lowest_from cells address deep low high
      → low < high → entry_at cells (middle low high) 0 < address → Searching cells address n (middle low high + 1) high
  unfolding lowest_from
  up zero low high b f e h t = absurd (omega arith)
  up (suc deep) low high b f e h t =
      record { below = b; deep = deep; enough = omega arith; same = e ∙ rw (lt-ltb low high h, lt-ltb _ address t) }

  down : (deep low high : ℕ) → high ≤ n → high ≤ low + deep → lowest_from cells address n 0 n ≡ lowest_from cells address deep low high
      → low < high → address ≤ entry_at cells (middle low high) 0 → Searching cells address n low (middle low high)
  unfolding lowest_from
  down zero low high b f e h t = absurd (omega arith)
  down (suc deep) low high b f e h t =
      record { below = omega arith; deep = deep; enough = omega arith; same = e ∙ rw (lt-ltb low high h, le-ltb _ address t) }

pub loop-low-init : goal.loop-low-init
loop-low-init c = record { below = omega arith; deep = c.args.n; enough = omega arith; same = refl }

pub loop-low-preserved-then-entry-address : goal.loop-low-preserved-then-entry-address
loop-low-preserved-then-entry-address c = up _ _ _ _ _ _ c.loop-low.invariant.below c.loop-low.invariant.enough c.loop-low.invariant.same c.loop-low-test.true (rw c.entry.ensures at c.if-entry-address.true)

pub loop-low-preserved : goal.loop-low-preserved
loop-low-preserved c = down _ _ _ _ _ _ c.loop-low.invariant.below c.loop-low.invariant.enough c.loop-low.invariant.same c.loop-low-test.true (rw c.entry.ensures at c.if-entry-address.false)

pub returns : goal.returns
returns c = done _ _ _ _ _ c.loop-low.invariant c.loop-low-test.false
