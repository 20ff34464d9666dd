-- Where a refusal by the judge lies: "A node is judged after its parts, left before right, and the first to fail counts."
use Prim.Native.Nat.{ℕ, suc, ◌+◌}
use mathlib.Core.Path.{◌≡◌, refl}
use mathlib.Core.Logic.{◌↔◌}
use mathlib.Core.Bool.{Bool, true, false}
use mathlib.Core.List.{List, [], ◌∷◌}
use lib.Dec.{T, ltb}
use lib.ListN.{length}
use Rattle.choice.specs.Choice.{choose, choose_case}
use Rattle.cells.specs.Heap.{Heap}
use Rattle.cells.specs.Same.{same_kind}
use Rattle.cells.specs.declared.Mode.{Mode}
use Rattle.cells.specs.declared.Mode.TheVariants.{Checked}
use Rattle.cells.specs.declared.Kind.{Kind}
use Rattle.cells.specs.declared.Kind.TheVariants.{Int, Word, Struct, Array}
use Rattle.calculus.specs.Setting.{Setting, fields_of, size}
use Rattle.calculus.specs.Expr.{Expr, lit, var, malloc, bind, one, two, nodes, One, unchecked, cast, read, field, Two, act, pointer, inside}
use Rattle.calculus.specs.declared.Act.{Act}
use Rattle.calculus.specs.declared.Act.TheVariants.{Assign, Sum}
use Rattle.calculus.specs.Literal.{literal_well}
use Rattle.calculus.specs.Typing.{Role, whole, access, follows, castable}
use Rattle.calculus.specs.Judge.{Verdict, good, bad, then_judge, access_rule, one_rule, act_rule, two_rule, one_role, two_role, judge, judged}
use Rattle.calculus.specs.FirstFault.{Has, has_type, PartsTyped, parts_var, parts_malloc, parts_one, parts_two, FirstFault, bad_literal, no_rule, in_bound, in_body, in_part, in_left, in_right}
use Rattle.calculus.specs.declared.Fault.{Fault}
use Rattle.calculus.specs.declared.Fault.TheVariants.{NoRule, IllTyped}
use Rattle.calculus.proofs.Same.{fails}
use Rattle.calculus.proofs.Literals.{literal_test}
use Rattle.calculus.proofs.Accepted.{has_whole, judged_has, has_judged}
use Rattle.calculus.proofs.Apart.{differ}

-- What the rules of node i say once its parts have types: a type, or that none fits.
data Says (i : ℕ) : Verdict → Type 0 where
  fits : {κ : Kind} → Says i (good κ)
  none_fits : Says i (bad NoRule i)

module _ (S : Setting) (m : Mode) (i : ℕ) where
  -- A test before the type.
  test_says : (t : Bool) (κ : Kind) → Says i (choose t (λ _. good κ) (λ _. bad NoRule i))
  test_says t κ = choose_case (Says i) t _ _ fits none_fits

  -- The rule of an access, and then the rest.
  access_says : (κ : Kind) (go : Kind → Verdict) → ((ε : Kind) → Says i (go ε)) → Says i (access_rule S m i κ go)
  access_says Int go rest = none_fits
  access_says (Word m' n) go rest = choose_case (Says i) (follows m m') _ _ (rest _) none_fits
  access_says (Struct m' s) go rest = none_fits
  access_says (Array m' k n) go rest = choose_case (Says i) (follows m m') _ _ (rest _) none_fits

  -- The rules of a node with one part.
  one_says : (o : One) (κ : Kind) → Says i (one_rule S m i o κ)
  one_says unchecked κ = fits
  one_says (cast κ') κ = test_says (castable m κ') κ'
  one_says read κ = access_says κ good (λ ε. fits)
  one_says (field f) Int = none_fits
  one_says (field f) (Word m' n) = none_fits
  one_says (field f) (Struct m' s) = test_says (ltb f (length (fields_of S s))) _
  one_says (field f) (Array m' k n) = none_fits

  -- The rule of what is done with two values.
  act_says : (r : Role) (o : Act) (κ κ' : Kind) → Says i (act_rule S m i r o κ κ')
  act_says r Assign κ κ' = access_says κ _ (λ ε. test_says (same_kind κ' ε) ε)
  act_says r Sum Int κ' = test_says (same_kind κ' Int) Int
  act_says r Sum (Word m' n) κ' = none_fits
  act_says r Sum (Struct m' s) κ' = none_fits
  act_says whole Sum (Array m' k n) κ' = none_fits
  act_says access Sum (Array m' k n) κ' = test_says (same_kind κ' Int) (Array m' k n)

  -- The rules of a node with two parts.
  two_says : (r : Role) (o : Two) (κ κ' : Kind) → Says i (two_rule S m i r o κ κ')
  two_says r (act o) κ κ' = act_says r o κ κ'

-- A node that is refused by its rules has fault 9.
says_bad : {i j : ℕ} {v : Verdict} {f : Fault} → Says i v → v ≡ bad f j → (NoRule ≡ f) × (i ≡ j)
says_bad fits q = differ cc
says_bad none_fits q = (cc, cc)

-- A node that its rules give no type is refused so.
says_none : {i : ℕ} {v : Verdict} → Says i v → ((κ : Kind) → v ≡ good κ → ⊥) → v ≡ bad NoRule i
says_none fits none = absurd (none _ refl)
says_none none_fits none = refl

-- A test that refuses has failed.
test_bad : {f : Fault} {j : ℕ} (t : Bool) (κ : Kind) (i : ℕ)
    → choose t (λ _. good κ) (λ _. bad IllTyped i) ≡ bad f j → (T t → ⊥) × (IllTyped ≡ f) × (i ≡ j)
test_bad true κ i q = differ cc
test_bad false κ i q = (λ t. t, cc, cc)

-- A part is refused, or it has a type and the rest is refused.
then_bad : {f : Fault} {j : ℕ} {P : Type 0} (v : Verdict) (go : Kind → Verdict)
    → then_judge v go ≡ bad f j → (v ≡ bad f j → P) → ((κ : Kind) → v ≡ good κ → go κ ≡ bad f j → P) → P
then_bad (good κ) go q part rest = rest κ refl q
then_bad (bad f i) go q part rest = part q

module _ (S : Setting) (H : Heap) where
  -- So does the judge of the node.
  node_says : {Γ : List Kind} {m : Mode} {e : Expr} (r : Role) (i : ℕ) → PartsTyped S H Γ m e → Says i (judge S H r Γ m i e)
  unfolding judge
  node_says {Γ} {m} r i (parts_var {k}) = test_says S m i (ltb k (length Γ)) _
  node_says {m} r i (parts_malloc {ω}) = test_says S m i (ltb 0 (size S (pointer Checked ω))) _
  node_says {m} r i (parts_one {o} {κ} h) = rw (has_judged S H (one_role o) h (suc i)) (one_says S m i o κ)
  node_says {m} r i (parts_two {o} {a} {κ} {κ'} h d) =
      rw (has_judged S H (two_role o) h (suc i), has_judged S H whole (has_type d) (suc i + nodes a)) (two_says S m i r o κ κ')

  -- A node that is refused itself.
  at_node : {Γ : List Kind} {m : Mode} {e : Expr} {r : Role} {i j : ℕ} {f : Fault}
      → PartsTyped S H Γ m e → judge S H r Γ m i e ≡ bad f j → FirstFault S H r Γ m i e f j
  at_node {Γ} {m} {e} {r} {i} parts q =
      let (p, p') = says_bad (node_says r i parts) q in
      let none : (κ : Kind) → Has S H r Γ m e κ → ⊥ = λ κ h. differ (cc (has_judged S H r h i)) in
      rw (← p, ← p') (no_rule parts none)

  -- A refusal is of the first node to fail.
  first : (r : Role) (Γ : List Kind) (m : Mode) (i : ℕ) (e : Expr) {f : Fault} {j : ℕ}
      → judge S H r Γ m i e ≡ bad f j → FirstFault S H r Γ m i e f j
  unfolding judge
  first r Γ m i (lit n κ) q =
      let (w, p, p') = test_bad (literal_well S H n κ) κ i q in rw (← p, ← p') (bad_literal (λ d. w ((literal_test S H n κ).1 d)))
  first r Γ m i (var k) q = at_node parts_var q
  first r Γ m i (malloc ω) q = at_node parts_malloc q
  first r Γ m i (bind a b) q =
      then_bad (judge S H whole Γ m (suc i) a) _ q (λ l. in_bound (first whole Γ m (suc i) a l))
      (λ κ g l. in_body (has_whole (judged_has S H whole Γ m (suc i) a g)) (first whole (κ ∷ Γ) m _ b l))
  first r Γ m i (one o e) q =
      then_bad (judge S H (one_role o) Γ (inside o m) (suc i) e) _ q (λ l. in_part (first (one_role o) Γ (inside o m) (suc i) e l))
      (λ κ g l. at_node (parts_one (judged_has S H (one_role o) Γ (inside o m) (suc i) e g)) q)
  first r Γ m i (two o a b) q =
      then_bad (judge S H (two_role o) Γ m (suc i) a) _ q (λ l. in_left (first (two_role o) Γ m (suc i) a l)) λ κ g l.
      let h = judged_has S H (two_role o) Γ m (suc i) a g in
      then_bad (judge S H whole Γ m (suc i + nodes a) b) _ l (λ l. in_right h (first whole Γ m _ b l))
      (λ κ' g' l'. at_node (parts_two h (has_whole (judged_has S H whole Γ m _ b g'))) q)

  -- The first node to fail is refused.
  refuses : {r : Role} {Γ : List Kind} {m : Mode} {i j : ℕ} {e : Expr} {f : Fault}
      → FirstFault S H r Γ m i e f j → judge S H r Γ m i e ≡ bad f j
  unfolding judge
  refuses (bad_literal {n} {κ} w) = rw (fails (literal_well S H n κ) (λ t. w ((literal_test S H n κ).0 t)))
  refuses (no_rule {r} {Γ} {m} {i} {e} parts none) = says_none (node_says r i parts) (λ κ q. none κ (judged_has S H r Γ m i e q))
  refuses (in_bound l) = rw (refuses l)
  refuses (in_body {i} d l) = rw (has_judged S H whole (has_type d) (suc i)) (refuses l)
  refuses (in_part l) = rw (refuses l)
  refuses (in_left l) = rw (refuses l)
  refuses (in_right {i} {o} h l) = rw (has_judged S H (two_role o) h (suc i), refuses l)

  -- The judge refuses an expression, in either role, exactly at its first node to fail and with that node's fault.
  pub refused_at_lem : (r : Role) (Γ : List Kind) (m : Mode) (i : ℕ) (e : Expr) (f : Fault) (j : ℕ)
      → (judge S H r Γ m i e ≡ bad f j) ↔ FirstFault S H r Γ m i e f j
  refused_at_lem r Γ m i e f j = (first r Γ m i e, refuses)

  -- The theorem: a script is refused with a fault at a node exactly if that is the first node to fail, with that fault.
  pub refused_first : (e : Expr) (f : Fault) (j : ℕ) → (judged S H e ≡ bad f j) ↔ FirstFault S H whole [] Checked 0 e f j
  refused_first e f j = refused_at_lem whole [] Checked 0 e f j
