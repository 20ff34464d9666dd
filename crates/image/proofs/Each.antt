-- What holds of each element of a list, and of each part of a series that was read.
-- Assumes nothing.
use mathlib.Core.Path.{◌≡◌, refl, ap}
use mathlib.Core.List.{List, [], ◌∷◌}
use Prim.Native.Nat.{ℕ, zero, suc, ◌+◌, ◌<◌, ◌≤◌}
use native.Mathlib.Omega.{arith}
use lib.ListN.{length, get_or}
use Rattle.image.specs.Parsing.{Parsed, several}
use Rattle.image.proofs.Gives.{Gives, gives, gives_then}

pub data Each {A : Type 0} (Q : A → Type 0) : List A → Type 0 where
  each_none : Each Q []
  each_more : {a : A} {xs : List A} → Q a → Each Q xs → Each Q (a ∷ xs)

pub each_at : {A : Type 0} {Q : A → Type 0} {xs : List A} → Each Q xs → (i : ℕ) (d : A) → i < length xs → Q (get_or xs i d)
each_at each_none i d h = absurd (omega arith)
each_at (each_more q e) zero d h = q
each_at (each_more q e) (suc i) d h = each_at e i d (omega arith)

pub each_map : {A : Type 0} {Q R : A → Type 0} {xs : List A} → ((a : A) → Q a → R a) → Each Q xs → Each R xs
each_map f each_none = each_none
each_map f (each_more {a} q e) = each_more (f a q) (each_map f e)

-- a part that was read from `at` on, up to at most `end`
pub record Part {A : Type 0} (Q : A → Type 0) (end at : ℕ) (a : A) (next : ℕ) : Type 0 where
  pub has : Q a
  pub behind : at < next
  pub within : next ≤ end

-- k parts in a row, read from `at` on
pub record Series {A : Type 0} (Q : A → Type 0) (k end at : ℕ) (xs : List A) (next : ℕ) : Type 0 where
  pub each : Each Q xs
  pub long : length xs ≡ k
  pub onward : at + k ≤ next
  pub within : at ≤ end → next ≤ end

pub series_gives : {A : Type 0} (Q : A → Type 0) (end : ℕ) (part : ℕ → Parsed A) → ((at : ℕ) → Gives (Part Q end at) (part at))
    → (k at : ℕ) → Gives (Series Q k end at) (several part k at)
unfolding several
series_gives Q end part p zero at = gives {next = at} (record { each = each_none; long = refl; onward = omega arith; within = λ h. h })
series_gives Q end part p (suc k) at =
    gives_then (part at) _ (p at)
    (λ a at₁ s. gives_then (several part k at₁) _ (series_gives Q end part p k at₁)
    (λ xs at₂ t. gives
    (record { each = each_more s.has t.each; long = ap suc t.long; onward = further s.behind t.onward; within = λ _. t.within s.within })))
  where
    further : {at₁ at₂ : ℕ} → at < at₁ → at₁ + k ≤ at₂ → at + suc k ≤ at₂
    further h l = omega arith

pub each_of : {A : Type 0} {Q : A → Type 0} (xs : List A) (d : A) → ((i : ℕ) → i < length xs → Q (get_or xs i d)) → Each Q xs
each_of [] d h = each_none
each_of (x ∷ xs) d h = each_more (h zero (omega arith)) (each_of xs d (λ i l. h (suc i) (omega arith)))
