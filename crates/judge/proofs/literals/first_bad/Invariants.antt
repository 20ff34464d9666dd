-- `judge::literals::first_bad` gives the first literal that is off. The loop's invariant: the queue ends within its numbers, and the pass
-- from node i on gives the same. Assumes nothing.
use mathlib.Core.Path.{◌≡◌, sym, ◌∙◌}
use mathlib.Core.List.{List}
use Prim.Native.Nat.{ℕ, suc, ◌+◌, ◌-◌, ◌<◌, ◌≤◌}
use native.Mathlib.Omega.{arith}
use lib.ListN.{length}
use Rattle.judge.specs.Marks.{seen}
use Rattle.judge.specs.Literals.{on, off, node_look, Found, found, pass}
use Rattle.judge.proofs.Room.{node_after, ends_within}
use Rattle.judge.proofs.literals.first_bad.Given as goal

module _ (structs types cells nodes : List ℕ) where
  pub record Passing (start : Found) (count : ℕ) (marks queue : List ℕ) (tail i : ℕ) : Type 0 where
    pub ends : tail ≤ length queue
    pub same : start ≡ pass structs types cells nodes (count - i) i (seen marks queue tail)

  module _ {start : Found} {count : ℕ} {marks queue : List ℕ} {tail i : ℕ} (m : Passing start count marks queue tail i) where
    pub done : i ≤ count → count ≤ i → found count marks queue ≡ start
    unfolding pass
    done b h = let e : i ≡ count = omega arith in let f : count - count ≡ 0 = omega arith in sym (m.same ∙ rw (e, f))

    module _ (h : i < count) {marks' queue' : List ℕ} where
      pub stops : off marks' queue' ≡ node_look structs types cells nodes i (seen marks queue tail) → found i marks' queue' ≡ start
      unfolding pass
      stops e = let f : count - i ≡ suc (count - (i + 1)) = omega arith in sym (m.same ∙ rw (f, ← e))

      pub turn : {next : ℕ} → on (seen marks' queue' next) ≡ node_look structs types cells nodes i (seen marks queue tail)
          → Passing start count marks' queue' next (i + 1)
      unfolding pass
      turn {next} e =
          let f : count - i ≡ suc (count - (i + 1)) = omega arith in
          record {
            ends = ends_within (seen marks queue tail) (seen marks' queue' next) _ (node_after structs types cells nodes i (seen marks queue tail)) e m.ends;
            same = m.same ∙ rw (f, ← e);
          }

abbrev pub invariant-loop-i : goal.invariant-loop-i
invariant-loop-i l =
    Passing l.script.structs.now l.script.types.now l.script.cells.now l.script.nodes.now (pass l.script.structs.now l.script.types.now l.script.cells.now l.script.nodes.now l.count 0 (seen l.initial.marks l.initial.queue 0)) l.count l.marks l.queue l.tail l.i
