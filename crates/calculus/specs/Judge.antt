-- The executable judge, in the order of judging: "A node is judged after its parts, left before right, and the first to fail counts."
use Rattle.std.specs.Prelude.{ℕ, suc, ◌+◌, List, [], ◌∷◌, ltb, length, get_or}
use Rattle.choice.specs.Choice.{choose}
use Rattle.cells.specs.Heap.{Heap}
use Rattle.cells.specs.Same.{same_kind}
use Rattle.cells.specs.declared.Mode.{Mode}
use Rattle.cells.specs.declared.Mode.TheVariants.{Checked}
use Rattle.cells.specs.declared.Kind.{Kind}
use Rattle.cells.specs.declared.Kind.TheVariants.{Int, Word, Struct, Array}
use Rattle.calculus.specs.Setting.{Setting, kind_of, fields_of, size}
use Rattle.calculus.specs.declared.Act.{Act}
use Rattle.calculus.specs.declared.Act.TheVariants.{Assign, Sum}
use Rattle.calculus.specs.Expr.{Expr, lit, var, malloc, bind, one, two, nodes, One, unchecked, cast, read, field, Two, act, pointer, inside}
use Rattle.calculus.specs.Literal.{literal_well}
use Rattle.calculus.specs.Typing.{Role, whole, access, act_role, follows, castable}
use Rattle.calculus.specs.declared.Fault.{Fault}
use Rattle.calculus.specs.declared.Fault.TheVariants.{NoRule, IllTyped}

-- the type of what was judged, or the fault with the number of the node that has it
pub data Verdict : Type 0 where
  good : Kind → Verdict
  bad : Fault → ℕ → Verdict

-- go on with the type of what was found good
abbrev pub then_judge : Verdict → (Kind → Verdict) → Verdict
then_judge (good κ) go = go κ
then_judge (bad f i) go = bad f i

-- The rules for a node whose parts have the types told; m is the mode of the code around the node, i the node's number.
module _ (S : Setting) (m : Mode) (i : ℕ) where
  -- an access through a pointer of type κ: go on with the word or element type
  abbrev pub access_rule : Kind → (Kind → Verdict) → Verdict
  access_rule Int go = bad NoRule i
  access_rule (Word m' n) go = choose (follows m m') (λ _. go (kind_of S n)) (λ _. bad NoRule i)
  access_rule (Struct m' s) go = bad NoRule i
  access_rule (Array m' k n) go = choose (follows m m') (λ _. go (kind_of S n)) (λ _. bad NoRule i)

  abbrev pub field_rule : ℕ → Kind → Verdict
  field_rule f Int = bad NoRule i
  field_rule f (Word m' n) = bad NoRule i
  field_rule f (Struct m' s) =
      choose (ltb f (length (fields_of S s))) (λ _. good (Word m' (get_or (fields_of S s) f 0))) (λ _. bad NoRule i)
  field_rule f (Array m' k n) = bad NoRule i

  abbrev pub one_rule : One → Kind → Verdict
  one_rule unchecked κ = good κ
  one_rule (cast κ') κ = choose (castable m κ') (λ _. good κ') (λ _. bad NoRule i)
  one_rule read κ = access_rule κ good
  one_rule (field f) κ = field_rule f κ

  -- "Any other sum there is judged as a plain sum, at its own number."
  abbrev pub sum_rule : Role → Kind → Kind → Verdict
  sum_rule role Int κ = choose (same_kind κ Int) (λ _. good Int) (λ _. bad NoRule i)
  sum_rule role (Word m' n) κ = bad NoRule i
  sum_rule role (Struct m' s) κ = bad NoRule i
  sum_rule whole (Array m' k n) κ = bad NoRule i
  sum_rule access (Array m' k n) κ = choose (same_kind κ Int) (λ _. good (Array m' k n)) (λ _. bad NoRule i)

  -- what is done with two values
  abbrev pub act_rule : Role → Act → Kind → Kind → Verdict
  act_rule role Assign κ κ' = access_rule κ (λ ε. choose (same_kind κ' ε) (λ _. good ε) (λ _. bad NoRule i))
  act_rule role Sum κ κ' = sum_rule role κ κ'

  abbrev pub two_rule : Role → Two → Kind → Kind → Verdict
  two_rule role (act o) κ κ' = act_rule role o κ κ'

-- the role in which a node's first part is judged
abbrev pub one_role : One → Role
one_role unchecked = whole
one_role (cast κ) = whole
one_role read = access
one_role (field f) = whole

abbrev pub two_role : Two → Role
two_role (act o) = act_role o

-- Node i, the root of the expression: its type, or the first fault. As an access it answers the pointer's type.
unfoldable pub judge : Setting → Heap → Role → List Kind → Mode → ℕ → Expr → Verdict
judge S H role Γ m i (lit n κ) = choose (literal_well S H n κ) (λ _. good κ) (λ _. bad IllTyped i)
judge S H role Γ m i (var k) = choose (ltb k (length Γ)) (λ _. good (get_or Γ k Int)) (λ _. bad NoRule i)
judge S H role Γ m i (malloc ω) = choose (ltb 0 (size S (pointer Checked ω))) (λ _. good (pointer Checked ω)) (λ _. bad NoRule i)
judge S H role Γ m i (bind a b) =
    then_judge (judge S H whole Γ m (suc i) a) (λ κ. judge S H whole (κ ∷ Γ) m (suc i + nodes a) b)
judge S H role Γ m i (one o e) = then_judge (judge S H (one_role o) Γ (inside o m) (suc i) e) (one_rule S m i o)
judge S H role Γ m i (two o a b) =
    then_judge (judge S H (two_role o) Γ m (suc i) a)
    (λ κ. then_judge (judge S H whole Γ m (suc i + nodes a) b) (two_rule S m i role o κ))

-- the whole script
abbrev pub judged : Setting → Heap → Expr → Verdict
judged S H e = judge S H whole [] Checked 0 e
