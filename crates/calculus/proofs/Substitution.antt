-- "Let: each use of the variable becomes the value": an expression keeps its type when a variable becomes a literal of the variable's type.
use Prim.Native.Nat.{ℕ, zero, suc, pred, ◌<◌}
use mathlib.Core.Path.{◌≡◌, refl, ap}
use mathlib.Core.List.{List, [], ◌∷◌, ◌++◌}
use native.Mathlib.Omega.{arith}
use borrow.Author.Tests.{lt-ltb, le-ltb, eq-eqb, ne_eqb}
use lib.ListN.{length}
use Rattle.cells.specs.Heap.{Heap}
use Rattle.cells.specs.declared.Mode.{Mode}
use Rattle.cells.specs.declared.Kind.{Kind}
use Rattle.calculus.specs.Setting.{Setting, cell}
use Rattle.calculus.specs.Expr.{Expr, var}
use Rattle.calculus.specs.Literal.{WellLit}
use Rattle.calculus.specs.Typing.{Role, whole, Bound, here, out, Typed, t_var, t_lit, t_let, t_malloc, t_unchecked, t_cast, t_field, t_act, t_read, t_pointer, t_index}
use Rattle.calculus.specs.Steps.{replace}

-- Γ' is Γ without the type κ of the variable d lets out.
data Without (κ : Kind) : ℕ → List Kind → List Kind → Type 0 where
  innermost : {Γ : List Kind} → Without κ zero (κ ∷ Γ) Γ
  further : {d : ℕ} {Γ Γ' : List Kind} {κ₁ : Kind} → Without κ d Γ Γ' → Without κ (suc d) (κ₁ ∷ Γ) (κ₁ ∷ Γ')

-- A variable of Γ lies inside that let, is its variable, or lies outside it.
data Lies (κ : Kind) (d : ℕ) (Γ' : List Kind) (k : ℕ) (κ' : Kind) : Type 0 where
  inside : k < d → Bound Γ' k κ' → Lies κ d Γ' k κ'
  itself : k ≡ d → κ ≡ κ' → Lies κ d Γ' k κ'
  outside : d < k → Bound Γ' (pred k) κ' → Lies κ d Γ' k κ'

-- One let more around both.
deeper : {κ κ' κ₁ : Kind} {d k : ℕ} {Γ' : List Kind} → Lies κ d Γ' k κ' → Lies κ (suc d) (κ₁ ∷ Γ') (suc k) κ'
deeper (inside l b) = inside (omega arith) (out b)
deeper (itself q p) = itself (ap suc q) p
deeper {k} (outside l b) = let q : k ≡ suc (pred k) = omega arith in outside (omega arith) (rw q (out b))

-- So lies every variable of Γ.
lies : {κ κ' : Kind} {d k : ℕ} {Γ Γ' : List Kind} → Without κ d Γ Γ' → Bound Γ k κ' → Lies κ d Γ' k κ'
lies innermost here = itself refl refl
lies innermost (out b) = outside (omega arith) b
lies (further w) here = inside (omega arith) here
lies (further w) (out b) = deeper (lies w b)

module _ {S : Setting} {H : Heap} {n : ℕ} {κ : Kind} (well : WellLit S H [] n κ) where
  -- A variable's use.
  variable : {Γ' : List Kind} {m : Mode} {κ' : Kind} (d k : ℕ)
      → Lies κ d Γ' k κ' → Typed S H whole Γ' m (replace d (cell n κ) (var k)) κ'
  unfolding replace
  variable d k (inside l b) = rw (lt-ltb k d l) (t_var b)
  variable d k (itself q p) = rw (le-ltb k d (omega arith), eq-eqb k d q, ← p) (t_lit well)
  variable d k (outside l b) = rw (le-ltb k d (omega arith), ne_eqb k d (omega arith)) (t_var b)

  -- Every node keeps its type.
  replaced : {r : Role} {Γ Γ' : List Kind} {m : Mode} {e : Expr} {κ' : Kind} {d : ℕ}
      → Typed S H r Γ m e κ' → Without κ d Γ Γ' → Typed S H r Γ' m (replace d (cell n κ) e) κ'
  unfolding replace
  replaced {d} (t_var {k} b) w = variable d k (lies w b)
  replaced (t_lit l) w = t_lit l
  replaced (t_let a b) w = t_let (replaced a w) (replaced b (further w))
  replaced (t_malloc l) w = t_malloc l
  replaced (t_unchecked e) w = t_unchecked (replaced e w)
  replaced (t_cast t e) w = t_cast t (replaced e w)
  replaced (t_field e l) w = t_field (replaced e w) l
  replaced (t_act a b t) w = t_act (replaced a w) (replaced b w) t
  replaced (t_read e) w = t_read (replaced e w)
  replaced (t_pointer e el f) w = t_pointer (replaced e w) el f
  replaced (t_index a b f) w = t_index (replaced a w) (replaced b w) f

  -- The theorem: where Γ₁ are the types of the lets inside, the variable is length Γ₁ lets out.
  pub replacement : {r : Role} (Γ₁ Γ₂ : List Kind) {m : Mode} {e : Expr} {κ' : Kind}
      → Typed S H r (Γ₁ ++ κ ∷ Γ₂) m e κ' → Typed S H r (Γ₁ ++ Γ₂) m (replace (length Γ₁) (cell n κ) e) κ'
  replacement Γ₁ Γ₂ d = replaced d (without Γ₁)
    where
      without : (Γ₁ : List Kind) → Without κ (length Γ₁) (Γ₁ ++ κ ∷ Γ₂) (Γ₁ ++ Γ₂)
      without [] = innermost
      without (κ₁ ∷ Γ₁) = further (without Γ₁)
