-- Where a refusal lies: "A node is judged after its parts, left before right, and the first to fail counts."
use Rattle.std.specs.Prelude.{ℕ, suc, ◌+◌, List, [], ◌∷◌}
use Rattle.cells.specs.Heap.{Heap}
use Rattle.cells.specs.declared.Mode.{Mode}
use Rattle.cells.specs.declared.Kind.{Kind}
use Rattle.cells.specs.declared.Kind.TheVariants.{Int, Array}
use Rattle.calculus.specs.Setting.{Setting}
use Rattle.calculus.specs.Expr.{Expr, lit, var, malloc, bind, one, two, nodes, One, Two, act, Target, inside}
use Rattle.calculus.specs.Literal.{WellLit}
use Rattle.calculus.specs.Typing.{Role, whole, access, Typed}
use Rattle.calculus.specs.Judge.{one_role, two_role}
use Rattle.calculus.specs.declared.Act.TheVariants.{Sum}
use Rattle.calculus.specs.declared.Fault.{Fault}
use Rattle.calculus.specs.declared.Fault.TheVariants.{NoRule, IllTyped}

-- What is answered of an expression that is in order: its type; or, where it is the pointer of an access and a sum of an array pointer and
-- an int, "the access has that array pointer".
pub data Has (S : Setting) (H : Heap) : Role → List Kind → Mode → Expr → Kind → Type 0 where
  has_type : {r : Role} {Γ : List Kind} {m : Mode} {e : Expr} {κ : Kind} → Typed S H whole Γ m e κ → Has S H r Γ m e κ
  has_array : {Γ : List Kind} {m m' : Mode} {a b : Expr} {k n : ℕ}
      → Typed S H whole Γ m a (Array m' k n) → Typed S H whole Γ m b Int → Has S H access Γ m (two (act Sum) a b) (Array m' k n)

-- Every part of the node has a type, so that the node itself is judged. (A let whose parts have types has one.)
pub data PartsTyped (S : Setting) (H : Heap) (Γ : List Kind) (m : Mode) : Expr → Type 0 where
  parts_var : {k : ℕ} → PartsTyped S H Γ m (var k)
  parts_malloc : {ω : Target} → PartsTyped S H Γ m (malloc ω)
  parts_one : {o : One} {e : Expr} {κ : Kind} → Has S H (one_role o) Γ (inside o m) e κ → PartsTyped S H Γ m (one o e)
  parts_two : {o : Two} {a b : Expr} {κ κ' : Kind}
      → Has S H (two_role o) Γ m a κ → Typed S H whole Γ m b κ' → PartsTyped S H Γ m (two o a b)

-- FirstFault S H r Γ m i e f j: of the expression e, whose root has the number i, the first node to fail is node j, with the fault f.
pub data FirstFault (S : Setting) (H : Heap) : Role → List Kind → Mode → ℕ → Expr → Fault → ℕ → Type 0 where
  -- "a literal isn't well typed over the heap"
  bad_literal : {r : Role} {Γ : List Kind} {m : Mode} {i n : ℕ} {κ : Kind}
      → (WellLit S H [] n κ → ⊥) → FirstFault S H r Γ m i (lit n κ) IllTyped i
  -- "no typing rule fits a node": its parts have types, and it has none
  no_rule : {r : Role} {Γ : List Kind} {m : Mode} {i : ℕ} {e : Expr}
      → PartsTyped S H Γ m e → ((κ : Kind) → Has S H r Γ m e κ → ⊥) → FirstFault S H r Γ m i e NoRule i
  -- a let's bound part fails; or that has a type, and the body fails
  in_bound : {r : Role} {Γ : List Kind} {m : Mode} {i j : ℕ} {a b : Expr} {f : Fault}
      → FirstFault S H whole Γ m (suc i) a f j → FirstFault S H r Γ m i (bind a b) f j
  in_body : {r : Role} {Γ : List Kind} {m : Mode} {i j : ℕ} {a b : Expr} {f : Fault} {κ : Kind}
      → Typed S H whole Γ m a κ → FirstFault S H whole (κ ∷ Γ) m (suc i + nodes a) b f j
      → FirstFault S H r Γ m i (bind a b) f j
  -- the one part fails
  in_part : {r : Role} {Γ : List Kind} {m : Mode} {i j : ℕ} {o : One} {e : Expr} {f : Fault}
      → FirstFault S H (one_role o) Γ (inside o m) (suc i) e f j → FirstFault S H r Γ m i (one o e) f j
  -- the left part fails; or that has a type, and the right part fails
  in_left : {r : Role} {Γ : List Kind} {m : Mode} {i j : ℕ} {o : Two} {a b : Expr} {f : Fault}
      → FirstFault S H (two_role o) Γ m (suc i) a f j → FirstFault S H r Γ m i (two o a b) f j
  in_right : {r : Role} {Γ : List Kind} {m : Mode} {i j : ℕ} {o : Two} {a b : Expr} {f : Fault} {κ : Kind}
      → Has S H (two_role o) Γ m a κ → FirstFault S H whole Γ m (suc i + nodes a) b f j
      → FirstFault S H r Γ m i (two o a b) f j
