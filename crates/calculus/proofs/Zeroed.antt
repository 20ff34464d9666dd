-- What malloc does to a heap: the words of a heap after `zeroed`.
use Rattle.std.specs.Prelude.{Some}
use mathlib.Core.Path.{◌≡◌, refl, ◌∙◌}
use mathlib.Core.List.{[], ◌∷◌}
use Prim.Native.Nat.{ℕ, zero, suc, ◌+◌, ◌≤◌, ◌<◌}
use native.Mathlib.Nat.{add-zero}
use native.Mathlib.Omega.{arith}
use lib.ListN.{length}
use Rattle.cells.specs.Heap.{Heap, look, update}
use Rattle.cells.specs.declared.Kind.{Kind}
use Rattle.cells.specs.declared.Cell.{Cell}
use Rattle.calculus.specs.Setting.{Setting, cell, word_kind}
use Rattle.calculus.specs.Steps.{zeroed}
use Rattle.calculus.proofs.Same.{not_held}
use Rattle.cells.proofs.Heaps.{length_update, look_same, look_other}

-- A defined word has an address of the heap.
pub look_inside : (H : Heap) (a : ℕ) {c : Cell} → look H a ≡ Some c → (0 < a) × (a ≤ length H)
unfolding look
look_inside H zero h = absurd (not_held h)
look_inside [] (suc i) h = absurd (not_held h)
look_inside (w ∷ H) (suc zero) h = omega arith
look_inside (w ∷ H) (suc (suc i)) h = omega (arith, look_inside H (suc i) h)

module _ (S : Setting) (κ : Kind) where
  -- Taking words keeps the heap's length.
  pub length_zeroed : (k a i : ℕ) (H : Heap) → length (zeroed S κ k a i H) ≡ length H
  unfolding zeroed
  length_zeroed zero a i H = refl
  length_zeroed (suc k) a i H =
      length_zeroed k (suc a) (suc i) (update H a (cell 0 (word_kind S κ i))) ∙ length_update H a (cell 0 (word_kind S κ i))

  -- A word outside the run is as it was.
  pub zeroed_other : (k a i : ℕ) (H : Heap) (b : ℕ) → (a ≤ b → b < a + k → ⊥) → look (zeroed S κ k a i H) b ≡ look H b
  unfolding zeroed
  zeroed_other zero a i H b n = refl
  zeroed_other (suc k) a i H b n =
      zeroed_other k (suc a) (suc i) _ b (λ l m. n (omega arith) (omega arith))
      ∙ look_other H a b _ (λ e. n (omega arith) (omega arith))

  -- A word of the run is a zero of the target's type there.
  pub zeroed_same : (k a i : ℕ) (H : Heap) (j : ℕ) → j < k → 0 < a → a + k ≤ length H + 1
      → look (zeroed S κ k a i H) (a + j) ≡ Some (cell 0 (word_kind S κ (i + j)))
  unfolding zeroed
  zeroed_same zero a i H j l p m = absurd (omega arith)
  zeroed_same (suc k) a i H zero l p m =
      simp add-zero (zeroed_other k (suc a) (suc i) _ a (λ l m. omega arith) ∙ look_same H a _ p (omega arith))
  zeroed_same (suc k) a i H (suc j) l p m =
      let e : a + suc j ≡ suc a + j = omega arith in
      let f : i + suc j ≡ suc i + j = omega arith in
      rw (e, f)
      (zeroed_same k (suc a) (suc i) _ j (omega arith) (omega arith) (omega (arith, length_update H a (cell 0 (word_kind S κ i)))))
