-- The executable judge against the judgement: it answers a type exactly if the expression has it.
use Prim.Native.Nat.{ℕ, zero, suc, ◌+◌, ◌<◌}
use mathlib.Core.Path.{◌≡◌, refl, ap, ◌∙◌}
use mathlib.Core.Logic.{◌↔◌}
use mathlib.Core.Bool.{Bool, true, false}
use mathlib.Core.List.{List, [], ◌∷◌}
use native.Mathlib.Omega.{arith}
use lib.Dec.{T, ltb, ltb→lt}
use borrow.Author.Tests.{lt-ltb}
use lib.ListN.{length, get_or}
use Rattle.choice.specs.Choice.{choose}
use Rattle.cells.specs.Heap.{Heap}
use Rattle.cells.specs.Same.{same_kind}
use Rattle.cells.specs.declared.Mode.{Mode}
use Rattle.cells.specs.declared.Mode.TheVariants.{Checked}
use Rattle.cells.specs.declared.Kind.{Kind}
use Rattle.cells.specs.declared.Kind.TheVariants.{Int, Word, Struct, Array}
use Rattle.calculus.specs.Setting.{Setting, kind_of, fields_of, size}
use Rattle.calculus.specs.Expr.{Expr, lit, var, malloc, bind, one, two, nodes, One, unchecked, cast, read, field, Two, act, pointer, inside}
use Rattle.calculus.specs.declared.Act.{Act}
use Rattle.calculus.specs.declared.Act.TheVariants.{Assign, Sum}
use Rattle.calculus.specs.Literal.{literal_well}
use Rattle.calculus.specs.Typing.{Role, whole, access, act_role, follows, castable, Bound, here, out, Element, of_word, of_array, ActTyped, act_assign, act_sum, Typed, t_var, t_lit, t_let, t_malloc, t_unchecked, t_cast, t_field, t_act, t_read, t_pointer, t_index}
use Rattle.calculus.specs.Judge.{Verdict, good, bad, then_judge, access_rule, one_rule, sum_rule, act_rule, two_rule, one_role, two_role, judge, judged}
use Rattle.calculus.specs.FirstFault.{Has, has_type, has_array}
use Rattle.calculus.specs.declared.Fault.{Fault}
use Rattle.calculus.proofs.Same.{holds, same_kind_lem, kind_same}
use Rattle.calculus.proofs.Literals.{literal_test}
use Rattle.calculus.proofs.Apart.{differ}

-- What a verdict says of the expression judged: it has the type.
data Sound (S : Setting) (H : Heap) (r : Role) (Γ : List Kind) (m : Mode) (e : Expr) : Verdict → Type 0 where
  typed : {κ : Kind} → Has S H r Γ m e κ → Sound S H r Γ m e (good κ)
  refused : {f : Fault} {i : ℕ} → Sound S H r Γ m e (bad f i)

-- A number below the count of lets is a variable's.
bound : (Γ : List Kind) (k : ℕ) → k < length Γ → Bound Γ k (get_or Γ k Int)
bound [] k l = absurd (omega arith)
bound (κ ∷ Γ) zero l = here
bound (κ ∷ Γ) (suc k) l = out (bound Γ k (omega arith))

-- An access through what the judge answers.
pub has_access : {S : Setting} {H : Heap} {Γ : List Kind} {m m' : Mode} {e : Expr} {κ ε : Kind}
    → Has S H access Γ m e κ → Element S κ m' ε → T (follows m m') → Typed S H access Γ m e ε
has_access (has_type d) el f = t_pointer d el f
has_access (has_array a b) of_array f = t_index a b f

module _ {S : Setting} {H : Heap} {Γ : List Kind} {m : Mode} {e : Expr} where
  -- As a whole, an expression has its type.
  pub has_whole : {κ : Kind} → Has S H whole Γ m e κ → Typed S H whole Γ m e κ
  has_whole (has_type d) = d

  -- What a good verdict says.
  sound_good : {r : Role} {v : Verdict} {κ : Kind} → Sound S H r Γ m e v → v ≡ good κ → Has S H r Γ m e κ
  sound_good {κ} (typed {κ = κ₀} h) q = let p : κ₀ ≡ κ = cc in rw p at h
  sound_good refused q = differ cc

  -- A part that must have a certain type.
  must_be : (κ κ' : Kind) → T (same_kind κ κ') → Has S H whole Γ m e κ → Typed S H whole Γ m e κ'
  must_be κ κ' t h = rw (same_kind_lem κ κ' t) at (has_whole h)

  module _ {r : Role} where
    -- A part is judged, and then the rest.
    then_sound : {r' : Role} {Γ' : List Kind} {m' : Mode} {e' : Expr} {v : Verdict} (go : Kind → Verdict)
        → Sound S H r' Γ' m' e' v → ((κ : Kind) → Has S H r' Γ' m' e' κ → Sound S H r Γ m e (go κ))
        → Sound S H r Γ m e (then_judge v go)
    then_sound go (typed h) rest = rest _ h
    then_sound go refused rest = refused

    -- A test comes before the type.
    test_sound : (t : Bool) (go : Unit {0} → Verdict) (f : Fault) (i : ℕ)
        → (T t → Sound S H r Γ m e (go tt)) → Sound S H r Γ m e (choose t go (λ _. bad f i))
    test_sound true go f i rest = rest tt
    test_sound false go f i rest = refused

    -- The rule of an access, and then the rest.
    access_sound : (i : ℕ) (κ : Kind) (go : Kind → Verdict)
        → ((m' : Mode) (ε : Kind) → Element S κ m' ε → T (follows m m') → Sound S H r Γ m e (go ε))
        → Sound S H r Γ m e (access_rule S m i κ go)
    access_sound i Int go rest = refused
    access_sound i (Word m' n) go rest = test_sound (follows m m') _ _ _ (rest m' _ of_word)
    access_sound i (Struct m' s) go rest = refused
    access_sound i (Array m' k n) go rest = test_sound (follows m m') _ _ _ (rest m' _ of_array)

module _ {S : Setting} {H : Heap} {Γ : List Kind} {m : Mode} {r : Role} where
  -- The rules of a node with one part.
  one_sound : (i : ℕ) (o : One) (e : Expr) (κ : Kind)
      → Has S H (one_role o) Γ (inside o m) e κ → Sound S H r Γ m (one o e) (one_rule S m i o κ)
  one_sound i unchecked e κ h = typed (has_type (t_unchecked (has_whole h)))
  one_sound i (cast κ') e κ h = test_sound (castable m κ') _ _ _ (λ t. typed (has_type (t_cast t (has_whole h))))
  one_sound i read e κ h = access_sound i κ good (λ m' ε el f. typed (has_type (t_read (has_access h el f))))
  one_sound i (field f) e Int h = refused
  one_sound i (field f) e (Word m' n) h = refused
  one_sound i (field f) e (Struct m' s) h =
      test_sound (ltb f (length (fields_of S s))) _ _ _ (λ t. typed (has_type (t_field (has_whole h) (ltb→lt f _ t))))
  one_sound i (field f) e (Array m' k n) h = refused

  -- The rule of what is done with two values.
  act_sound : (i : ℕ) (o : Act) (a b : Expr) (κ κ' : Kind)
      → Has S H (act_role o) Γ m a κ → Has S H whole Γ m b κ' → Sound S H r Γ m (two (act o) a b) (act_rule S m i r o κ κ')
  act_sound i Assign a b κ κ' h h' =
      access_sound i κ _ λ m' ε el f.
      test_sound (same_kind κ' ε) _ _ _ (λ t. typed (has_type (t_act (has_access h el f) (must_be κ' ε t h') act_assign)))
  act_sound i Sum a b κ κ' h h' = sum_sound r κ h
    where
      sum_sound : (r : Role) (κ : Kind) → Has S H whole Γ m a κ → Sound S H r Γ m (two (act Sum) a b) (sum_rule S m i r κ κ')
      sum_sound r Int h = test_sound (same_kind κ' Int) _ _ _ (λ t. typed (has_type (t_act (has_whole h) (must_be κ' Int t h') act_sum)))
      sum_sound r (Word m' n) h = refused
      sum_sound r (Struct m' s) h = refused
      sum_sound whole (Array m' k n) h = refused
      sum_sound access (Array m' k n) h =
          test_sound (same_kind κ' Int) _ _ _ (λ t. typed (has_array (has_whole h) (must_be κ' Int t h')))

  -- The rules of a node with two parts.
  two_sound : (i : ℕ) (o : Two) (a b : Expr) (κ κ' : Kind)
      → Has S H (two_role o) Γ m a κ → Has S H whole Γ m b κ' → Sound S H r Γ m (two o a b) (two_rule S m i r o κ κ')
  two_sound i (act o) a b κ κ' h h' = act_sound i o a b κ κ' h h'

  -- A let has its body's type.
  let_sound : {a b : Expr} {κ : Kind} {v : Verdict}
      → Has S H whole Γ m a κ → Sound S H whole (κ ∷ Γ) m b v → Sound S H r Γ m (bind a b) v
  let_sound h (typed h') = typed (has_type (t_let (has_whole h) (has_whole h')))
  let_sound h refused = refused

-- Whatever the judge answers, it is right if it answers a type.
sound : (S : Setting) (H : Heap) (r : Role) (Γ : List Kind) (m : Mode) (i : ℕ) (e : Expr) → Sound S H r Γ m e (judge S H r Γ m i e)
unfolding judge
sound S H r Γ m i (lit n κ) = test_sound (literal_well S H n κ) _ _ _ (λ t. typed (has_type (t_lit ((literal_test S H n κ).0 t))))
sound S H r Γ m i (var k) = test_sound (ltb k (length Γ)) _ _ _ (λ t. typed (has_type (t_var (bound Γ k (ltb→lt k _ t)))))
sound S H r Γ m i (malloc ω) =
    test_sound (ltb 0 (size S (pointer Checked ω))) _ _ _ (λ t. typed (has_type (t_malloc (ltb→lt 0 _ t))))
sound S H r Γ m i (bind a b) =
    then_sound _ (sound S H whole Γ m (suc i) a) (λ κ h. let_sound h (sound S H whole (κ ∷ Γ) m (suc i + nodes a) b))
sound S H r Γ m i (one o e) = then_sound _ (sound S H (one_role o) Γ (inside o m) (suc i) e) (one_sound i o e)
sound S H r Γ m i (two o a b) =
    then_sound _ (sound S H (two_role o) Γ m (suc i) a)
    (λ κ h. then_sound _ (sound S H whole Γ m (suc i + nodes a) b) (λ κ' h'. two_sound i o a b κ κ' h h'))

-- What the judge answers where an expression has type κ: that type, as a whole; a pointer through which κ is accessed, as an access.
pub data Replies (S : Setting) (m : Mode) : Role → Verdict → Kind → Type 0 where
  replies : {v : Verdict} {κ : Kind} → v ≡ good κ → Replies S m whole v κ
  points : {v : Verdict} {m' : Mode} {κ ε : Kind} → v ≡ good κ → Element S κ m' ε → T (follows m m') → Replies S m access v ε

-- The answer for a whole.
the : {S : Setting} {m : Mode} {v : Verdict} {κ : Kind} → Replies S m whole v κ → v ≡ good κ
the (replies q) = q

-- The first constructor as a function, whose arguments are found from the goal.
answer : {S : Setting} {m : Mode} {v : Verdict} {κ : Kind} → v ≡ good κ → Replies S m whole v κ
answer q = replies q

-- The second one.
point : {S : Setting} {m m' : Mode} {v : Verdict} {κ ε : Kind}
    → v ≡ good κ → Element S κ m' ε → T (follows m m') → Replies S m access v ε
point q el f = points q el f

module _ (S : Setting) (m : Mode) (i : ℕ) where
  -- The rule of an access goes on where the pointer may be followed.
  access_good : {m' : Mode} {κ ε : Kind} (go : Kind → Verdict) → Element S κ m' ε → T (follows m m') → access_rule S m i κ go ≡ go ε
  access_good {m'} go of_word f = rw (holds (follows m m') f)
  access_good {m'} go of_array f = rw (holds (follows m m') f)

  -- The rule of a read.
  read_good : {v : Verdict} {ε : Kind} → Replies S m access v ε → then_judge v (one_rule S m i read) ≡ good ε
  read_good (points q el f) = rw q (access_good good el f)

  -- The rule of what is done with two values.
  act_good : {o : Act} {v v' : Verdict} {κ κ' κ'' : Kind} → ActTyped o κ κ' κ''
      → Replies S m (act_role o) v κ → v' ≡ good κ' → then_judge v (λ κ. then_judge v' (act_rule S m i whole o κ)) ≡ good κ''
  unfolding same_kind
  act_good (act_assign {ε}) (points q el f) q' = rw (q, q') (access_good _ el f ∙ rw (holds (same_kind ε ε) (kind_same ε)))
  act_good act_sum (replies q) q' = rw (q, q')

  -- A sum judged as a whole has the same type as the pointer of an access.
  sum_access : {κ : Kind} (v v' : Verdict) → then_judge v (λ κ. then_judge v' (sum_rule S m i whole κ)) ≡ good κ
      → then_judge v (λ κ. then_judge v' (sum_rule S m i access κ)) ≡ good κ
  sum_access (good Int) (good κ') q = q
  sum_access (good (Word m' n)) (good κ') q = q
  sum_access (good (Struct m' n)) (good κ') q = q
  sum_access (good (Array m' k n)) (good κ') q = differ cc
  sum_access (good κ) (bad f j) q = q
  sum_access (bad f j) v' q = q

  -- So has whatever is done with two values.
  act_access : {κ : Kind} (o : Act) (v v' : Verdict) → then_judge v (λ κ. then_judge v' (act_rule S m i whole o κ)) ≡ good κ
      → then_judge v (λ κ. then_judge v' (act_rule S m i access o κ)) ≡ good κ
  act_access Assign v v' q = q
  act_access Sum v v' q = sum_access v v' q

-- A pointer has one element type.
one_element : {S : Setting} {κ κ' ε ε' : Kind} {m m' : Mode} → Element S κ m ε → Element S κ' m' ε' → κ ≡ κ' → ε ≡ ε'
one_element {S} (of_word {n}) (of_word {n = n'}) q = let p : n ≡ n' = cc in ap (kind_of S) p
one_element of_word of_array q = differ cc
one_element of_array of_word q = differ cc
one_element {S} (of_array {n}) (of_array {n = n'}) q = let p : n ≡ n' = cc in ap (kind_of S) p

-- A verdict answers one type, in either role.
one_answer : {S : Setting} {m : Mode} {r : Role} {v : Verdict} {κ κ' : Kind} → Replies S m r v κ → Replies S m r v κ' → κ ≡ κ'
one_answer (replies q) (replies q') = cc
one_answer (points q el f) (points q' el' f') = one_element el el' cc

-- A variable's number is below the count of lets.
bound_lt : {Γ : List Kind} {k : ℕ} {κ : Kind} → Bound Γ k κ → k < length Γ
bound_lt here = omega arith
bound_lt (out b) = omega (arith, bound_lt b)

-- A variable has its let's type.
bound_kind : {Γ : List Kind} {k : ℕ} {κ : Kind} → Bound Γ k κ → get_or Γ k Int ≡ κ
bound_kind here = refl
bound_kind (out b) = bound_kind b

module _ (S : Setting) (H : Heap) where
  -- The type that the judge answers for a whole is also its answer for the pointer of an access.
  whole_access : {κ : Kind} (Γ : List Kind) (m : Mode) (i : ℕ) (e : Expr)
      → judge S H whole Γ m i e ≡ good κ → judge S H access Γ m i e ≡ good κ
  unfolding judge
  whole_access Γ m i (lit n κ) q = q
  whole_access Γ m i (var k) q = q
  whole_access Γ m i (malloc ω) q = q
  whole_access Γ m i (bind a b) q = q
  whole_access Γ m i (one o e) q = q
  whole_access Γ m i (two (act o) a b) q =
      act_access S m i o (judge S H (act_role o) Γ m (suc i) a) (judge S H whole Γ m (suc i + nodes a) b) q

  -- Where an expression has a type, the judge answers it.
  complete : {r : Role} {Γ : List Kind} {m : Mode} {e : Expr} {κ : Kind}
      → Typed S H r Γ m e κ → (i : ℕ) → Replies S m r (judge S H r Γ m i e) κ
  unfolding judge same_kind
  complete (t_var {Γ} {k} b) i = answer (rw (lt-ltb k (length Γ) (bound_lt b), bound_kind b))
  complete (t_lit {n} {κ} w) i = answer (rw (holds (literal_well S H n κ) ((literal_test S H n κ).1 w)))
  complete (t_let d d') i = answer (rw (the (complete d (suc i))) (the (complete d' _)))
  complete (t_malloc {ω} l) i = answer (rw (lt-ltb 0 (size S (pointer Checked ω)) l))
  complete (t_unchecked d) i = answer (rw (the (complete d (suc i))))
  complete (t_cast {m} {κ} t d) i = answer (rw (the (complete d (suc i)), holds (castable m κ) t))
  complete (t_field {s} {i = f} d l) i = answer (rw (the (complete d (suc i)), lt-ltb f (length (fields_of S s)) l))
  complete (t_act {m} d d' t) i = answer (act_good S m i t (complete d (suc i)) (the (complete d' _)))
  complete (t_read {m} d) i = answer (read_good S m i (complete d (suc i)))
  complete (t_pointer {Γ} {m} {e} d el f) i = points (whole_access Γ m i e (the (complete d i))) el f
  complete (t_index {a} {k} d d' f) i =
      point (rw (the (complete d (suc i)), the (complete d' (suc i + nodes a)))) (of_array {k = k}) f

  -- What the judge answers, the expression has.
  pub judged_has : {κ : Kind} (r : Role) (Γ : List Kind) (m : Mode) (i : ℕ) (e : Expr)
      → judge S H r Γ m i e ≡ good κ → Has S H r Γ m e κ
  judged_has r Γ m i e q = sound_good (sound S H r Γ m i e) q

  -- What the expression has, the judge answers.
  pub has_judged : (r : Role) {Γ : List Kind} {m : Mode} {e : Expr} {κ : Kind}
      → Has S H r Γ m e κ → (i : ℕ) → judge S H r Γ m i e ≡ good κ
  unfolding judge same_kind
  has_judged whole (has_type d) i = the (complete d i)
  has_judged access (has_type {Γ} {m} {e} d) i = whole_access Γ m i e (the (complete d i))
  has_judged access (has_array {a} d d') i = rw (the (complete d (suc i)), the (complete d' (suc i + nodes a)))

  -- The judge answers a type exactly if the expression has it, at whatever number its root has.
  pub judge_right : (Γ : List Kind) (m : Mode) (i : ℕ) (e : Expr) (κ : Kind)
      → (judge S H whole Γ m i e ≡ good κ) ↔ Typed S H whole Γ m e κ
  judge_right Γ m i e κ = (λ q. has_whole (judged_has whole Γ m i e q), λ d. has_judged whole (has_type d) i)

  -- An access through an expression has type ε exactly if the judge answers a pointer that may be followed to ε.
  pub access_right : (Γ : List Kind) (m : Mode) (i : ℕ) (e : Expr) (ε : Kind)
      → Replies S m access (judge S H access Γ m i e) ε ↔ Typed S H access Γ m e ε
  access_right Γ m i e ε = (from, λ d. complete d i)
    where
      from : Replies S m access (judge S H access Γ m i e) ε → Typed S H access Γ m e ε
      from (points q el f) = has_access (judged_has access Γ m i e q) el f

  -- The theorem: a script is accepted with a type exactly if the paper's rules give it that type.
  pub accepted : (e : Expr) (κ : Kind) → (judged S H e ≡ good κ) ↔ Typed S H whole [] Checked e κ
  accepted e κ = judge_right [] Checked 0 e κ

  -- Types are unique, in either role.
  pub one_type : {r : Role} {Γ : List Kind} {m : Mode} {e : Expr} {κ κ' : Kind}
      → Typed S H r Γ m e κ → Typed S H r Γ m e κ' → κ ≡ κ'
  one_type d d' = one_answer (complete d 0) (complete d' 0)
