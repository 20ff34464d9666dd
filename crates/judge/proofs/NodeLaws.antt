-- The judge over the node table is the executable judge of the expression that the table holds. The first bad literal is not passed: as
-- long as a part is good, it lies behind the part.
use Rattle.std.specs.Prelude.{Result, Ok, Err}
use mathlib.Core.Path.{◌≡◌, refl, sym, ◌∙◌, ap}
use mathlib.Core.Logic.{⊎_elim}
use mathlib.Core.Bool.{Bool, true, false}
use mathlib.Core.List.{List, [], ◌∷◌}
use Prim.Native.Nat.{ℕ, zero, suc, ◌+◌, ◌*◌, ◌-◌, ◌/◌, ◌≤◌, ◌<◌}
use native.Mathlib.Nat.{eq-or-lt_of_le}
use native.Mathlib.Numerals.{add-one}
use native.Mathlib.Omega.{arith}
use lib.Dec.{ltb}
use lib.ListN.{length, length-set, get_or, set}
use lib.Seq.{get_or-set_same, get_or-set_other}
use borrow.Author.Tests.{lt-ltb, le-ltb, ltb-true}
use Rattle.choice.specs.Choice.{choose}
use Rattle.cells.specs.Code.{packed, Small, small_int}
use Rattle.cells.specs.Heap.{Heap}
use Rattle.cells.specs.declared.Mode.{Mode}
use Rattle.cells.specs.declared.Mode.TheVariants.{Checked}
use Rattle.cells.specs.declared.Kind.{Kind}
use Rattle.cells.specs.declared.Kind.TheVariants.{Int}
use Rattle.cells.proofs.Codes.{round_trip}
use Rattle.calculus.specs.Setting.{Setting, size}
use Rattle.calculus.specs.Expr.{Expr, nodes, One, unchecked, cast, read, field, Two, act, Target, pointer, inside}
use Rattle.calculus.specs.Literal.{literal_well}
use Rattle.calculus.specs.Typing.{Role, whole}
use Rattle.calculus.specs.Judge as definition
use Rattle.calculus.specs.Judge.{Verdict, good, bad, then_judge, one_role, two_role, judge}
use Rattle.calculus.specs.declared.Operation.{Operation}
use Rattle.calculus.specs.declared.Operation.TheVariants as op
use Rattle.calculus.specs.declared.Fault.{Fault}
use Rattle.calculus.specs.declared.Fault.TheVariants.{NoRule, IllTyped}
use Rattle.calculus.specs.declared.Refusal.{Refusal}
use Rattle.calculus.proofs.Same.{as_true, refuted}
use Rattle.image.specs.Tabled.{one_operation, one_argument, one_kind, two_operation, Row, Spans, s_lit, s_var, s_malloc, s_bind, s_one, s_two}
use Rattle.image.specs.Shape.{SmallExpr, small_lit, small_var, small_malloc, small_bind, small_one, small_two}
use Rattle.image.specs.Shape.{SmallOne, small_unchecked, small_cast, small_read, small_field}
use Rattle.judge.specs.Premises.{nested}
use Rattle.judge.specs.Rows.{node_number, operation_at}
use Rattle.judge.specs.Literals.{is_literal}
use Rattle.judge.specs.Parts.{parts_of, as_access, is_access, inner_mode, is_let, inner_lets, bound_with}
use Rattle.judge.specs.Rules as model
use Rattle.judge.specs.Nodes.{Judging, judging, then_judging, judge_node}
use Rattle.judge.proofs.Lists.{in_row_lem}
use Rattle.tables.specs.Kinds.{HoldsSetting}
use Rattle.tables.proofs.Held.{size_kind}
use Rattle.judge.proofs.PassLaws.{LiteralNode, well_at, FirstBad}
use Rattle.judge.proofs.RuleLaws.{ToldRight, right_good, right_bad, right_if, access_told_right, field_told_right, cast_told_right, act_told_right}

-- ---- rows
-- row i of the table, by the numbers that the judge reads
record Reads (t : List ℕ) (i : ℕ) (operation : Operation) (argument kind second : ℕ) : Type 0 where
  operation_is : operation_at t i ≡ operation
  argument_is : node_number t i 1 ≡ argument
  kind_is : node_number t i 2 ≡ kind
  second_is : node_number t i 3 ≡ second

reads : {t : List ℕ} {i : ℕ} {operation : Operation} {argument kind second : ℕ} → i < length t / 4 → Row t i operation argument kind second
    → Reads t i operation argument kind second
reads {t} {i} l r =
    let e : 4 * i + 0 ≡ 4 * i = omega arith in
    record {
      operation_is = rw (in_row_lem 4 t i 0 l, e) r.operation_is;
      argument_is = in_row_lem 4 t i 1 l ∙ r.argument_is;
      kind_is = in_row_lem 4 t i 2 l ∙ r.kind_is;
      second_is = in_row_lem 4 t i 3 l ∙ r.second_is;
    }

-- ---- the kinds of bound variables
-- the list has the codes of the kinds in scope, the innermost last
pub record Bounds (Γ : List Kind) (bound : List ℕ) : Type 0 where
  pub codes : (k : ℕ) → k < length Γ → get_or bound (length Γ - 1 - k) 0 ≡ packed (get_or Γ k Int)
  pub small : (k : ℕ) → Small (get_or Γ k Int)

pub bounds_none : (bound : List ℕ) → Bounds [] bound
bounds_none bound = record { codes = λ k h. absurd (omega arith); small = λ k. small_int }

bounds_more : {Γ : List Kind} {bound : List ℕ} {κ : Kind} → Bounds Γ bound → Small κ → length Γ < length bound
    → Bounds (κ ∷ Γ) (set bound (length Γ) (packed κ))
bounds_more {Γ} {bound} {κ} b s l = record { codes = codes; small = small }
  where
    codes : (k : ℕ) → k < length (κ ∷ Γ) → get_or (set bound (length Γ) (packed κ)) (length (κ ∷ Γ) - 1 - k) 0 ≡ packed (get_or (κ ∷ Γ) k Int)
    codes zero h =
        let e : length (κ ∷ Γ) - 1 - 0 ≡ length Γ = omega arith in
        rw e (get_or-set_same bound (length Γ) (packed κ) 0 l)
    codes (suc k) h =
        let e : length (κ ∷ Γ) - 1 - suc k ≡ length Γ - 1 - k = omega arith in
        rw (e, get_or-set_other bound (length Γ) (length Γ - 1 - k) (packed κ) 0 (λ f. omega arith)) (b.codes k (omega arith))

    small : (k : ℕ) → Small (get_or (κ ∷ Γ) k Int)
    small zero = s
    small (suc k) = b.small k

bounds_less : {Γ : List Kind} {bound : List ℕ} {κ : Kind} → Bounds (κ ∷ Γ) bound → Bounds Γ bound
bounds_less {Γ} {bound} {κ} b =
    record {
      codes = λ k h. let e : length (κ ∷ Γ) - 1 - suc k ≡ length Γ - 1 - k = omega arith in rw e at (b.codes (suc k) (omega arith));
      small = λ k. b.small (suc k);
    }

-- ---- verdicts
-- The code's verdict is the definition's; if it is good, what was judged ends at or before the first bad literal, and the list of bound
-- kinds still has those in scope.
pub data Meets (first : ℕ) (Γ : List Kind) (bound : List ℕ) (end : ℕ) : Verdict → Judging → Type 0 where
  meets_good : {κ : Kind} {bound' : List ℕ} → Small κ → Bounds Γ bound' → length bound' ≡ length bound → end ≤ first
      → Meets first Γ bound end (good κ) (judging (Ok (packed κ)) bound')
  meets_bad : {f : Fault} {i : ℕ} {bound' : List ℕ}
      → Meets first Γ bound end (bad f i) (judging (Err (record { fault = f; place = i })) bound')

module _ {first : ℕ} {Γ : List Kind} {bound : List ℕ} {end : ℕ} where
  -- a rule at the end
  ruled : {v : Verdict} {t : Result ℕ Refusal} {bound' : List ℕ} → ToldRight v t → Bounds Γ bound' → length bound' ≡ length bound → end ≤ first
      → Meets first Γ bound end v (judging t bound')
  ruled (right_good s) b l e = meets_good s b l e
  ruled right_bad b l e = meets_bad

  -- go on with a part that is good
  then_meets : {Γ' : List Kind} {bound₀ : List ℕ} {end' : ℕ} {v : Verdict} {j : Judging} (k : Kind → Verdict) (go : ℕ → List ℕ → Judging)
      → Meets first Γ' bound₀ end' v j
      → ((κ : Kind) (bound' : List ℕ) → Small κ → Bounds Γ' bound' → length bound' ≡ length bound₀ → end' ≤ first
      → Meets first Γ bound end (k κ) (go (packed κ) bound'))
      → Meets first Γ bound end (then_judge v k) (then_judging j go)
  then_meets k go (meets_good s b l e) f = f _ _ s b l e
  then_meets k go meets_bad f = meets_bad

-- ---- a node, opened by how many parts it has
is_suc : (n : ℕ) → 0 < n → n ≡ suc (n - 1)
is_suc n h = omega arith

module _ (structs types table : List ℕ) (first left : ℕ) (asks_access : Bool) (lets : ℕ) (m : Mode) (i : ℕ) (bound : List ℕ) (o : Operation)
    (is : operation_at table i ≡ o) where
  leaf_opened : parts_of o ≡ 0
      → judge_node structs types table first (suc left) asks_access lets m i bound ≡ judging (model.leaf_told bound structs table first lets i o) bound
  unfolding judge_node
  leaf_opened p = rw (is, p)

  one_opened : parts_of o ≡ 1
      → judge_node structs types table first (suc left) asks_access lets m i bound
      ≡ then_judging (judge_node structs types table first left (is_access o) lets (inner_mode o m) (suc i) bound)
      (λ x bound₁. judging (model.one_told structs types table m i o x) bound₁)
  unfolding judge_node
  one_opened p = rw (is, p, add-one)

  two_opened : parts_of o ≡ 2
      → judge_node structs types table first (suc left) asks_access lets m i bound
      ≡ then_judging (judge_node structs types table first left (is_access o) lets (inner_mode o m) (suc i) bound)
      (λ x bound₁. then_judging (judge_node structs types table first left false (inner_lets o lets) m (node_number table i 3) (bound_with o lets x bound₁))
      (λ y bound₂. judging (model.two_told types m i asks_access o x y) bound₂))
  unfolding judge_node
  two_opened p = rw (is, p, add-one i)

-- ---- what is read off operations
one_parts : (o : One) → parts_of (one_operation o) ≡ 1
one_parts unchecked = refl
one_parts (cast κ) = refl
one_parts read = refl
one_parts (field f) = refl

one_role_lem : (o : One) → is_access (one_operation o) ≡ as_access (one_role o)
one_role_lem unchecked = refl
one_role_lem (cast κ) = refl
one_role_lem read = refl
one_role_lem (field f) = refl

one_inside : (o : One) (m : Mode) → inner_mode (one_operation o) m ≡ inside o m
one_inside unchecked m = refl
one_inside (cast κ) m = refl
one_inside read m = refl
one_inside (field f) m = refl

one_some : (o : One) → is_literal (one_operation o) ≡ false
one_some unchecked = refl
one_some (cast κ) = refl
one_some read = refl
one_some (field f) = refl

two_parts : (o : Two) → parts_of (two_operation o) ≡ 2
two_parts (act o) = refl

two_role_lem : (o : Two) → is_access (two_operation o) ≡ as_access (two_role o)
two_role_lem (act o) = refl

two_inside : (o : Two) (m : Mode) → inner_mode (two_operation o) m ≡ m
two_inside (act o) m = refl

two_lets : (o : Two) → is_let (two_operation o) ≡ false
two_lets (act o) = refl

two_some : (o : Two) → is_literal (two_operation o) ≡ false
two_some (act o) = refl

-- ---- the induction
module _ {S : Setting} {H : Heap} {structs types table : List ℕ} {first : ℕ} (hs : HoldsSetting S structs types)
    (fb : FirstBad S H table first) where
  -- a node that is no literal is not the first bad one
  beyond : (i : ℕ) (o : Operation) → operation_at table i ≡ o → is_literal o ≡ false → i < length table / 4 → i ≤ first → suc i ≤ first
  beyond i o e n l h =
      ⊎_elim
      (λ f. let z : LiteralNode table i = rw f (fb.literal (rw f at l)) in absurd (refuted (ap is_literal e ∙ n) (as_true z)))
      (λ k. k)
      (eq-or-lt_of_le h)

  module _ (Γ : List Kind) (bound : List ℕ) (i : ℕ) (b : Bounds Γ bound) (l : i < length table / 4) (h : i ≤ first) where
    literal_meets : {n : ℕ} {κ : Kind} → Reads table i op.Literal n (packed κ) 0 → Small κ
        → Meets first Γ bound (i + 1) (choose (literal_well S H n κ) (λ _. good κ) (λ _. bad IllTyped i))
        (judging (model.literal_told table first i) bound)
    unfolding model.literal_told
    literal_meets {n} {κ} r s =
        let t : well_at S H table i ≡ literal_well S H n κ = rw (r.argument_is, r.kind_is, round_trip s) in
        ⊎_elim
        (λ f. let w : literal_well S H n κ ≡ false = sym t ∙ rw f (fb.bad (rw f at l)) in
        rw (w, le-ltb i first (omega arith)) meets_bad)
        (λ k. let w : literal_well S H n κ ≡ true = sym t ∙ fb.before i k (ap is_literal r.operation_is) in
        rw (w, lt-ltb i first k, r.kind_is) (meets_good s b refl (omega arith)))
        (eq-or-lt_of_le h)

    variable_meets : {k : ℕ} → Reads table i op.Variable k 0 0
        → Meets first Γ bound (i + 1) (choose (ltb k (length Γ)) (λ _. good (get_or Γ k Int)) (λ _. bad NoRule i))
        (judging (model.variable_told bound (length Γ) i (node_number table i 1)) bound)
    unfolding model.variable_told
    variable_meets {k} r = rw r.argument_is (go (ltb k (length Γ)) refl)
      where
        go : (t : Bool) → ltb k (length Γ) ≡ t
            → Meets first Γ bound (i + 1) (choose t (λ _. good (get_or Γ k Int)) (λ _. bad NoRule i))
            (judging (choose t (λ _. Ok (get_or bound (length Γ - 1 - k) 0)) (λ _. model.no_rule_told i)) bound)
        go true e =
            rw (b.codes k (ltb-true k (length Γ) e))
            (meets_good (b.small k) b refl (omega (arith, beyond i op.Variable r.operation_is refl l h)))
        go false e = meets_bad

    malloc_meets : (ω : Target) → Reads table i op.Malloc 0 (packed (pointer Checked ω)) 0 → Small (pointer Checked ω)
        → Meets first Γ bound (i + 1) (choose (ltb 0 (size S (pointer Checked ω))) (λ _. good (pointer Checked ω)) (λ _. bad NoRule i))
        (judging (model.malloc_told structs i (node_number table i 2)) bound)
    unfolding model.malloc_told
    malloc_meets ω r s =
        rw (r.kind_is, size_kind hs s)
        (ruled (right_if (ltb 0 (size S (pointer Checked ω))) (pointer Checked ω) i (λ _. s)) b refl
        (omega (arith, beyond i op.Malloc r.operation_is refl l h)))

  -- the rules at a node
  one_told_right : (m : Mode) (i : ℕ) {o : One} {κ : Kind} → SmallOne o → Reads table i (one_operation o) (one_argument o) (one_kind o) 0 → Small κ
      → ToldRight (definition.one_rule S m i o κ) (model.one_told structs types table m i (one_operation o) (packed κ))
  one_told_right m i small_unchecked r s = right_good s
  one_told_right m i {κ = κ} (small_cast t) r s = rw r.kind_is (cast_told_right hs m i t κ)
  one_told_right m i small_read r s = access_told_right hs m i s
  one_told_right m i (small_field {f}) r s = rw r.argument_is (field_told_right hs m i f s)

  two_told_right : (m : Mode) (i : ℕ) (o : Two) (role : Role) {κ κ' : Kind} → Small κ → Small κ'
      → ToldRight (definition.two_rule S m i role o κ κ') (model.two_told types m i (as_access role) (two_operation o) (packed κ) (packed κ'))
  two_told_right m i (act o) role s s' = act_told_right hs m i role o s s'

  -- a let has the type of its body
  let_meets : {end end' : ℕ} {Γ : List Kind} {κ : Kind} {bound bound₁ : List ℕ} {v : Verdict} {j : Judging}
      → length bound₁ ≡ length bound → Meets first (κ ∷ Γ) bound₁ end v j → end' ≤ end
      → Meets first Γ bound end' v (then_judging j (λ y bound₂. judging (Ok y) bound₂))
  let_meets k (meets_good s b l e) h = meets_good s (bounds_less b) (l ∙ k) (omega arith)
  let_meets k meets_bad h = meets_bad

  pub meets : {i : ℕ} {e : Expr} → Spans table i e → SmallExpr e → (role : Role) (Γ : List Kind) (m : Mode) (left : ℕ) (bound : List ℕ)
      → nodes e ≤ left → i + nodes e ≤ length table / 4 → i ≤ first → Bounds Γ bound → length Γ + nested e ≤ length bound
      → Meets first Γ bound (i + nodes e) (judge S H role Γ m i e) (judge_node structs types table first left (as_access role) (length Γ) m i bound)
  unfolding judge nodes nested
  meets (s_lit {i} row) (small_lit s) role Γ m left bound n l h b d =
      let r = reads (omega arith) row in
      rw (is_suc left n, leaf_opened structs types table first (left - 1) (as_access role) (length Γ) m i bound op.Literal r.operation_is refl)
      (literal_meets Γ bound i b (omega arith) h r s)
  meets (s_var {i} row) small_var role Γ m left bound n l h b d =
      let r = reads (omega arith) row in
      rw (is_suc left n, leaf_opened structs types table first (left - 1) (as_access role) (length Γ) m i bound op.Variable r.operation_is refl)
      (variable_meets Γ bound i b (omega arith) h r)
  meets (s_malloc {i} {ω} row) (small_malloc s) role Γ m left bound n l h b d =
      let r = reads (omega arith) row in
      rw (is_suc left n, leaf_opened structs types table first (left - 1) (as_access role) (length Γ) m i bound op.Malloc r.operation_is refl)
      (malloc_meets Γ bound i b (omega arith) h ω r s)
  meets (s_bind {i} {a} {b = e} row p q) (small_bind s t) role Γ m left bound n l h b d =
      let r = reads (omega arith) row in
      rw (
        is_suc left (omega arith),
        two_opened structs types table first (left - 1) (as_access role) (length Γ) m i bound op.Let r.operation_is refl,
      )
      (then_meets (λ κ. judge S H whole (κ ∷ Γ) m (suc i + nodes a) e)
      (λ x bound₁. then_judging (judge_node structs types table first (left - 1) false (length Γ + 1) m (node_number table i 3) (set bound₁ (length Γ) x))
      (λ y bound₂. judging (Ok y) bound₂))
      (meets p s whole Γ m (left - 1) bound (omega arith) (omega arith) (beyond i op.Let r.operation_is refl (omega arith) h) b (omega arith))
      (λ κ bound₁ w b₁ k e₁. rw (r.second_is, add-one (length Γ))
      (let_meets (length-set bound₁ (length Γ) (packed κ) ∙ k)
      (meets q t whole (κ ∷ Γ) m (left - 1) (set bound₁ (length Γ) (packed κ)) (omega arith) (omega arith) e₁
      (bounds_more b₁ w (omega arith)) (rw length-set (omega arith)))
      (omega arith))))
  meets (s_one {i} {o} {e} row p) (small_one t s) role Γ m left bound n l h b d =
      let r = reads (omega arith) row in
      rw (
        is_suc left (omega arith),
        one_opened structs types table first (left - 1) (as_access role) (length Γ) m i bound (one_operation o) r.operation_is (one_parts o),
        one_role_lem o,
        one_inside o m,
      )
      (then_meets (definition.one_rule S m i o) (λ x bound₁. judging (model.one_told structs types table m i (one_operation o) x) bound₁)
      (meets p s (one_role o) Γ (inside o m) (left - 1) bound (omega arith) (omega arith)
      (beyond i (one_operation o) r.operation_is (one_some o) (omega arith) h) b d)
      (λ κ bound₁ w b₁ k e₁. ruled (one_told_right m i t r w) b₁ k (omega arith)))
  meets (s_two {i} {o} {a} {b = e} row p q) (small_two s t) role Γ m left bound n l h b d =
      let r = reads (omega arith) row in
      rw (
        is_suc left (omega arith),
        two_opened structs types table first (left - 1) (as_access role) (length Γ) m i bound (two_operation o) r.operation_is (two_parts o),
        two_role_lem o,
        two_inside o m,
        two_lets o,
      )
      (then_meets (λ κ. then_judge (judge S H whole Γ m (suc i + nodes a) e) (definition.two_rule S m i role o κ))
      (λ x bound₁. then_judging
      (judge_node structs types table first (left - 1) false (length Γ) m (node_number table i 3) bound₁)
      (λ y bound₂. judging (model.two_told types m i (as_access role) (two_operation o) x y) bound₂))
      (meets p s (two_role o) Γ m (left - 1) bound (omega arith) (omega arith)
      (beyond i (two_operation o) r.operation_is (two_some o) (omega arith) h) b (omega arith))
      (λ κ bound₁ w b₁ k e₁. rw r.second_is
      (then_meets (definition.two_rule S m i role o κ)
      (λ y bound₂. judging (model.two_told types m i (as_access role) (two_operation o) (packed κ) y) bound₂)
      (meets q t whole Γ m (left - 1) bound₁ (omega arith) (omega arith) e₁ b₁ (omega arith))
      (λ κ' bound₂ w' b₂ k₂ e₂. ruled (two_told_right m i o role w w') b₂ (k₂ ∙ k) (omega arith)))))
