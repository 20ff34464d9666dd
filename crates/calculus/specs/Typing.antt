-- Typing: the paper's rules (section 3.3) as a judgement. Mode is that of the code around an expression, "checked at the root and
-- unchecked inside an unchecked block".
use Rattle.std.specs.Prelude.{ℕ, zero, suc, ◌<◌, Bool, true, false, not, List, [], ◌∷◌, T, length, get_or}
use Rattle.cells.specs.Heap.{Heap}
use Rattle.cells.specs.declared.Mode.{Mode}
use Rattle.cells.specs.declared.Mode.TheVariants.{Checked, Unchecked}
use Rattle.cells.specs.declared.Kind.{Kind}
use Rattle.cells.specs.declared.Kind.TheVariants.{Int, Word, Struct, Array}
use Rattle.calculus.specs.Setting.{Setting, kind_of, fields_of, size, checked_pointer}
use Rattle.calculus.specs.declared.Act.{Act}
use Rattle.calculus.specs.declared.Act.TheVariants.{Assign, Sum}
use Rattle.calculus.specs.Expr.{Expr, lit, var, malloc, bind, one, two, unchecked, cast, read, field, act, Target, pointer}
use Rattle.calculus.specs.Literal.{WellLit}

-- "An unchecked pointer only in unchecked mode": code of mode m may follow a pointer of mode m'
abbrev pub follows : (m m' : Mode) → Bool
follows Checked Checked = true
follows Checked Unchecked = false
follows Unchecked m' = true

-- "Cast: the named type; in checked mode not a checked pointer."
abbrev pub castable : Mode → Kind → Bool
castable Checked κ = not (checked_pointer κ)
castable Unchecked κ = true

-- x : κ ∈ Γ: how many lets out, 0 the innermost
pub data Bound : List Kind → ℕ → Kind → Type 0 where
  here : {Γ : List Kind} {κ : Kind} → Bound (κ ∷ Γ) zero κ
  out : {Γ : List Kind} {k : ℕ} {κ κ' : Kind} → Bound Γ k κ → Bound (κ' ∷ Γ) (suc k) κ

-- "the pointer's target is a word type or an array, and the result is that word or element type": κ is such a pointer, of mode m
pub data Element (S : Setting) : (κ : Kind) (m : Mode) (ε : Kind) → Type 0 where
  of_word : {m : Mode} {n : ℕ} → Element S (Word m n) m (kind_of S n)
  of_array : {m : Mode} {k n : ℕ} → Element S (Array m k n) m (kind_of S n)

-- An expression is judged as a whole, or as the pointer of an access: directly under a read, or as an assign's pointer part.
pub data Role : Type 0 where
  whole : Role
  access : Role

-- the role in which the first of two values is judged
abbrev pub act_role : Act → Role
act_role Assign = access
act_role Sum = whole

-- ActTyped o κ κ' κ'': done with two values of the types κ and κ', the operation gives one of type κ''. For an assign, κ is the type of the
-- access: "the value part has that type exactly".
pub data ActTyped : Act → (κ κ' κ'' : Kind) → Type 0 where
  -- T-Assign and T-IndAssign
  act_assign : {ε : Kind} → ActTyped Assign ε ε ε
  -- T-BinopInt: "both int, result int"
  act_sum : ActTyped Sum Int Int Int

-- Typed S H whole Γ m e κ: the expression has type κ. Typed S H access Γ m e ε: an access through it has type ε.
pub data Typed (S : Setting) (H : Heap) : Role → List Kind → Mode → Expr → Kind → Type 0 where
  -- T-Var
  t_var : {Γ : List Kind} {m : Mode} {k : ℕ} {κ : Kind} → Bound Γ k κ → Typed S H whole Γ m (var k) κ
  -- T-Base, T-VConst and T-PtrC, in the empty scope
  t_lit : {Γ : List Kind} {m : Mode} {n : ℕ} {κ : Kind} → WellLit S H [] n κ → Typed S H whole Γ m (lit n κ) κ
  -- T-Let
  t_let : {Γ : List Kind} {m : Mode} {a b : Expr} {κ κ' : Kind}
      → Typed S H whole Γ m a κ → Typed S H whole (κ ∷ Γ) m b κ' → Typed S H whole Γ m (bind a b) κ'
  -- T-Malloc: "malloc of a target of more than 0 words: checked pointer to it"
  t_malloc : {Γ : List Kind} {m : Mode} {ω : Target}
      → 0 < size S (pointer Checked ω) → Typed S H whole Γ m (malloc ω) (pointer Checked ω)
  -- T-Unchecked: "its part's type, judged in unchecked mode"
  t_unchecked : {Γ : List Kind} {m : Mode} {e : Expr} {κ : Kind}
      → Typed S H whole Γ Unchecked e κ → Typed S H whole Γ m (one unchecked e) κ
  -- T-Cast
  t_cast : {Γ : List Kind} {m : Mode} {e : Expr} {κ κ' : Kind}
      → T (castable m κ) → Typed S H whole Γ m e κ' → Typed S H whole Γ m (one (cast κ) e) κ
  -- T-Amper: "the part is a pointer to a struct that has the field; the result points to the field's type with the same mode"
  t_field : {Γ : List Kind} {m m' : Mode} {e : Expr} {s i : ℕ}
      → Typed S H whole Γ m e (Struct m' s) → i < length (fields_of S s)
      → Typed S H whole Γ m (one (field i) e) (Word m' (get_or (fields_of S s) i 0))
  -- what is done with two values, by the table above
  t_act : {Γ : List Kind} {m : Mode} {o : Act} {a b : Expr} {κ κ' κ'' : Kind}
      → Typed S H (act_role o) Γ m a κ → Typed S H whole Γ m b κ' → ActTyped o κ κ' κ'' → Typed S H whole Γ m (two (act o) a b) κ''
  -- T-Deref and T-Index
  t_read : {Γ : List Kind} {m : Mode} {e : Expr} {ε : Kind} → Typed S H access Γ m e ε → Typed S H whole Γ m (one read e) ε
  -- the pointer of T-Deref and T-Assign
  t_pointer : {Γ : List Kind} {m m' : Mode} {e : Expr} {κ ε : Kind}
      → Typed S H whole Γ m e κ → Element S κ m' ε → T (follows m m') → Typed S H access Γ m e ε
  -- the pointer of T-Index and T-IndAssign: "where the left is a pointer to an array and the right an int, the access has that array
  -- pointer"
  t_index : {Γ : List Kind} {m m' : Mode} {a b : Expr} {k n : ℕ}
      → Typed S H whole Γ m a (Array m' k n) → Typed S H whole Γ m b Int → T (follows m m')
      → Typed S H access Γ m (two (act Sum) a b) (kind_of S n)
