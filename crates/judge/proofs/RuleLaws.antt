-- Each rule over codes says what the definition's rule says of their kinds.
use Rattle.std.specs.Prelude.{Result, Ok, Err}
use mathlib.Core.Path.{◌≡◌, refl, sym, ap}
use mathlib.Core.Bool.{Bool, true, false}
use mathlib.Core.List.{List}
use Prim.Native.Nat.{ℕ, ◌%◌}
use lib.Dec.{eqb, ltb}
use lib.ListN.{length, get_or}
use borrow.Author.Tests.{eq-eqb, ne_eqb, ltb-true}
use Rattle.choice.specs.Choice.{choose, both, either, choose_case}
use Rattle.cells.specs.Code.{mode_of, packed, number_in, Small, small_int, small_word, small_struct, small_array}
use Rattle.cells.specs.Same.{same_kind}
use Rattle.cells.specs.declared.Mode.{Mode}
use Rattle.cells.specs.declared.Mode.TheVariants.{Checked, Unchecked}
use Rattle.cells.specs.declared.Kind.{Kind}
use Rattle.cells.specs.declared.Kind.TheVariants.{Int, Word, Struct, Array}
use Rattle.cells.proofs.Codes.{packed_injective}
use Rattle.calculus.specs.Setting.{Setting, kind_of, fields_of, checked_pointer}
use Rattle.calculus.specs.Expr.{cast}
use Rattle.calculus.specs.Typing as typing
use Rattle.calculus.specs.Typing.{Role, whole, access}
use Rattle.calculus.specs.Judge as definition
use Rattle.calculus.specs.Judge.{Verdict, good, bad, then_judge}
use Rattle.calculus.specs.declared.Act.{Act}
use Rattle.calculus.specs.declared.Act.TheVariants.{Assign, Sum}
use Rattle.calculus.specs.declared.Fault.{Fault}
use Rattle.calculus.specs.declared.Fault.TheVariants.{NoRule}
use Rattle.calculus.specs.declared.Refusal.{Refusal}
use Rattle.calculus.proofs.Same.{as_true, refuted, same_kind_lem, kind_same}
use Rattle.judge.specs.Parts.{as_access}
use Rattle.judge.specs.Rules as model
use Rattle.judge.specs.Rules.{then_told}
use Rattle.tables.specs.Kinds.{code_tag, code_checked, field_type_at, type_code_at, word_code, HoldsSetting}
use Rattle.tables.proofs.Coded.{Coded, coded_int, coded_word, coded_struct, coded_array, coded_kind}
use Rattle.tables.proofs.Held.{field_code, field_small}
use Rattle.judge.proofs.Spans.{tested, tested_checked}

-- the code's verdict is the definition's: a kind whose numbers fit, by its code, or the same fault
pub data ToldRight : Verdict → Result ℕ Refusal → Type 0 where
  right_good : {κ : Kind} → Small κ → ToldRight (good κ) (Ok (packed κ))
  right_bad : {f : Fault} {i : ℕ} → ToldRight (bad f i) (Err (record { fault = f; place = i }))

-- a kind by a test, or no rule
pub right_if : (t : Bool) (κ : Kind) (i : ℕ) → (t ≡ true → Small κ)
    → ToldRight (choose t (λ _. good κ) (λ _. bad NoRule i)) (choose t (λ _. Ok (packed κ)) (λ _. model.no_rule_told i))
right_if true κ i s = right_good (s refl)
right_if false κ i s = right_bad

pub right_then : {v : Verdict} {t : Result ℕ Refusal} (go : Kind → Verdict) (go' : ℕ → Result ℕ Refusal) → ToldRight v t
    → ((κ : Kind) → Small κ → ToldRight (go κ) (go' (packed κ))) → ToldRight (then_judge v go) (then_told t go')
right_then go go' (right_good s) f = f _ s
right_then go go' right_bad f = right_bad

-- kinds are compared by their codes
pub same_code : {κ κ' : Kind} → Small κ → Small κ' → same_kind κ κ' ≡ eqb (packed κ) (packed κ')
same_code {κ} {κ'} s s' = go (same_kind κ κ') refl
  where
    go : (t : Bool) → same_kind κ κ' ≡ t → t ≡ eqb (packed κ) (packed κ')
    go true e = sym (eq-eqb _ _ (ap packed (same_kind_lem κ κ' (as_true e))))
    go false e =
        sym (ne_eqb _ _ (λ f. refuted e (let g : κ ≡ κ' = packed_injective s s' f in rw g (kind_same κ'))))

-- a code's mode
follows_tested : (t : Bool) → typing.follows Checked (tested t) ≡ t
follows_tested true = refl
follows_tested false = refl

follows_same : (m : Mode) (code : ℕ) → typing.follows m (mode_of (code % 2)) ≡ model.follows_code m code
follows_same Checked code = follows_tested (code_checked code)
follows_same Unchecked code = refl

castable_same : {code : ℕ} {κ : Kind} → Coded code κ → (m : Mode) → typing.castable m κ ≡ model.castable_code m code
unfolding checked_pointer
castable_same (coded_int e) Checked = rw e
castable_same {code} (coded_word e) Checked = rw (e, tested_checked (code_checked code))
castable_same {code} (coded_struct e) Checked = rw (e, tested_checked (code_checked code))
castable_same {code} (coded_array e) Checked = rw (e, tested_checked (code_checked code))
castable_same c Unchecked = refl

-- an array's code
abbrev is_array : Kind → Bool
is_array Int = false
is_array (Word m n) = false
is_array (Struct m s) = false
is_array (Array m k n) = true

array_tag : {code : ℕ} {κ : Kind} → Coded code κ → eqb (code_tag code) 3 ≡ is_array κ
array_tag (coded_int e) = rw e
array_tag (coded_word e) = rw e
array_tag (coded_struct e) = rw e
array_tag (coded_array e) = rw e

-- an int's code
int_code : {κ : Kind} → Small κ → eqb (packed κ) 1 ≡ same_kind κ Int
unfolding packed
int_code s = sym (same_code s small_int)

module _ {S : Setting} {structs types : List ℕ} (h : HoldsSetting S structs types) (m : Mode) (i : ℕ) where
  -- an access through a pointer
  element_right : (code : ℕ) → ToldRight
      (choose (typing.follows m (mode_of (code % 2))) (λ _. good (kind_of S (number_in code))) (λ _. bad NoRule i))
      (choose (model.follows_code m code) (λ _. Ok (type_code_at types (number_in code))) (λ _. model.no_rule_told i))
  element_right code =
      rw (follows_same m code, h.codes (number_in code))
      (right_if (model.follows_code m code) (kind_of S (number_in code)) i (λ _. h.small (number_in code)))

  access_coded : {code : ℕ} {κ : Kind} → Coded code κ → ToldRight (definition.access_rule S m i κ good) (model.access_told types m i code)
  unfolding model.access_told
  access_coded (coded_int e) = rw e right_bad
  access_coded {code} (coded_word e) = rw e (element_right code)
  access_coded (coded_struct e) = rw e right_bad
  access_coded {code} (coded_array e) = rw e (element_right code)

  pub access_told_right : {κ : Kind} → Small κ → ToldRight (definition.access_rule S m i κ good) (model.access_told types m i (packed κ))
  access_told_right s = access_coded (coded_kind s)

  -- what is done with the element type comes behind the rule
  behind : (go : Kind → Verdict) (t : Bool) (κ : Kind)
      → choose t (λ _. go κ) (λ _. bad NoRule i) ≡ then_judge (choose t (λ _. good κ) (λ _. bad NoRule i)) go
  behind go true κ = refl
  behind go false κ = refl

  access_then : (κ : Kind) (go : Kind → Verdict) → definition.access_rule S m i κ go ≡ then_judge (definition.access_rule S m i κ good) go
  access_then Int go = refl
  access_then (Word m' n) go = behind go (typing.follows m m') (kind_of S n)
  access_then (Struct m' s) go = refl
  access_then (Array m' k n) go = behind go (typing.follows m m') (kind_of S n)

  assign_told_right : {κ κ' : Kind} (role : Role) → Small κ → Small κ'
      → ToldRight (definition.act_rule S m i role Assign κ κ') (model.assign_told types m i (packed κ) (packed κ'))
  unfolding model.assign_told
  assign_told_right {κ} {κ'} role s s' =
      rw (access_then κ (λ ε. choose (same_kind κ' ε) (λ _. good ε) (λ _. bad NoRule i)))
      (right_then (λ ε. choose (same_kind κ' ε) (λ _. good ε) (λ _. bad NoRule i))
      (λ element. choose (eqb (packed κ') element) (λ _. Ok element) (λ _. model.no_rule_told i))
      (access_told_right s)
      (λ ε t. rw (same_code s' t) (right_if (eqb (packed κ') (packed ε)) ε i (λ _. t))))

  -- a field address
  field_there : (f code : ℕ) (t : Bool) → ltb f (length (fields_of S (number_in code))) ≡ t
      → ToldRight
      (choose t (λ _. good (Word (mode_of (code % 2)) (get_or (fields_of S (number_in code)) f 0))) (λ _. bad NoRule i))
      (choose t (λ _. Ok (word_code code (field_type_at structs (number_in code) f))) (λ _. model.no_rule_told i))
  field_there f code true e = rw (field_code h code (number_in code) f (ltb-true _ _ e)) (right_good (field_small h (mode_of (code % 2)) (number_in code) f))
  field_there f code false e = right_bad

  field_coded : (f : ℕ) {code : ℕ} {κ : Kind} → Coded code κ → ToldRight (definition.field_rule S m i f κ) (model.field_told structs i f code)
  unfolding model.field_told
  field_coded f (coded_int e) = rw e right_bad
  field_coded f (coded_word e) = rw e right_bad
  field_coded f {code} (coded_struct e) = rw (e, h.count (number_in code)) (field_there f code (ltb f (length (fields_of S (number_in code)))) refl)
  field_coded f (coded_array e) = rw e right_bad

  pub field_told_right : (f : ℕ) {κ : Kind} → Small κ → ToldRight (definition.field_rule S m i f κ) (model.field_told structs i f (packed κ))
  field_told_right f s = field_coded f (coded_kind s)

  -- a cast
  pub cast_told_right : {κ' : Kind} → Small κ' → (κ : Kind) → ToldRight (definition.one_rule S m i (cast κ') κ) (model.cast_told m i (packed κ'))
  unfolding model.cast_told
  cast_told_right {κ'} s κ =
      rw (castable_same (coded_kind s) m) (right_if (model.castable_code m (packed κ')) κ' i (λ _. s))

  -- a sum
  no_sum : (t : Bool) → ToldRight (bad NoRule i) (choose t (λ _. model.no_rule_told i) (λ _. model.no_rule_told i))
  no_sum t = choose_case (ToldRight (bad NoRule i)) t (λ _. model.no_rule_told i) (λ _. model.no_rule_told i) right_bad right_bad

  sum_kinds : (role : Role) (κ' : Kind) {κ : Kind} → Small κ
      → ToldRight (definition.sum_rule S m i role κ κ')
      (choose (same_kind κ' Int)
      (λ _. choose (either (same_kind κ Int) (both (as_access role) (is_array κ))) (λ _. Ok (packed κ)) (λ _. model.no_rule_told i))
      (λ _. model.no_rule_told i))
  unfolding same_kind
  sum_kinds role κ' small_int = right_if (same_kind κ' Int) Int i (λ _. small_int)
  sum_kinds whole κ' (small_word l) = no_sum (same_kind κ' Int)
  sum_kinds access κ' (small_word l) = no_sum (same_kind κ' Int)
  sum_kinds whole κ' (small_struct l) = no_sum (same_kind κ' Int)
  sum_kinds access κ' (small_struct l) = no_sum (same_kind κ' Int)
  sum_kinds whole κ' (small_array k l) = no_sum (same_kind κ' Int)
  sum_kinds access κ' (small_array k l) = right_if (same_kind κ' Int) _ i (λ _. small_array k l)

  sum_told_right : {κ κ' : Kind} (role : Role) → Small κ → Small κ'
      → ToldRight (definition.sum_rule S m i role κ κ') (model.sum_told i (as_access role) (packed κ) (packed κ'))
  unfolding model.sum_told
  sum_told_right {κ} {κ'} role s s' = rw (int_code s, int_code s', array_tag (coded_kind s)) (sum_kinds role κ' s)

  -- what is done with two values
  pub act_told_right : {κ κ' : Kind} (role : Role) (o : Act) → Small κ → Small κ'
      → ToldRight (definition.act_rule S m i role o κ κ') (model.act_told types m i (as_access role) o (packed κ) (packed κ'))
  act_told_right role Assign s s' = assign_told_right role s s'
  act_told_right role Sum s s' = sum_told_right role s s'
