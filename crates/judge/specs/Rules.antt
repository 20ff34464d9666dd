-- The typing rules over codes, as the code has them: the type of node i from those of its parts. `mode` is that of the code around it.
use Rattle.std.specs.Prelude.{ℕ, ◌-◌, ◌%◌, Bool, true, not, List, Result, Ok, Err, eqb, ltb, get_or}
use Rattle.choice.specs.Choice.{choose, both, either}
use Rattle.cells.specs.Code.{number_in}
use Rattle.cells.specs.declared.Mode.{Mode}
use Rattle.cells.specs.declared.Mode.TheVariants.{Checked, Unchecked}
use Rattle.calculus.specs.declared.Act.{Act}
use Rattle.calculus.specs.declared.Act.TheVariants.{Assign, Sum}
use Rattle.calculus.specs.declared.Operation.{Operation}
use Rattle.calculus.specs.declared.Operation.TheVariants as op
use Rattle.calculus.specs.declared.Refusal.{Refusal}
use Rattle.calculus.specs.declared.Fault.TheVariants.{NoRule, IllTyped}
use Rattle.tables.specs.Kinds.{code_checked, code_tag, field_count_at, field_type_at, size_at, type_code_at, word_code}
use Rattle.judge.specs.Rows.{node_number}

abbrev pub no_rule_told : ℕ → Result ℕ Refusal
no_rule_told i = Err (record { fault = NoRule; place = i })

abbrev pub ill_typed : ℕ → Result ℕ Refusal
ill_typed i = Err (record { fault = IllTyped; place = i })

-- go on with the type of what was found good
abbrev pub then_told : Result ℕ Refusal → (ℕ → Result ℕ Refusal) → Result ℕ Refusal
then_told (Ok x) go = go x
then_told (Err r) go = Err r

-- "An unchecked pointer only in unchecked mode"
abbrev pub follows_code : Mode → ℕ → Bool
follows_code Checked code = code_checked code
follows_code Unchecked code = true

-- "in checked mode not a checked pointer"
abbrev pub castable_code : Mode → ℕ → Bool
castable_code Checked code = either (eqb (code_tag code) 0) (not (code_checked code))
castable_code Unchecked code = true

-- an access through a pointer to a word (tag 1) or an array (tag 3)
unfoldable pub access_told : (types : List ℕ) (mode : Mode) (i code : ℕ) → Result ℕ Refusal
access_told types mode i code =
    choose (eqb (code_tag code % 2) 1)
    (λ _. choose (follows_code mode code) (λ _. Ok (type_code_at types (number_in code))) (λ _. no_rule_told i))
    (λ _. no_rule_told i)

-- a field address: a pointer to the field's type, of the same mode
unfoldable pub field_told : (structs : List ℕ) (i field code : ℕ) → Result ℕ Refusal
field_told structs i field code =
    choose (eqb (code_tag code) 2)
    (λ _. choose (ltb field (field_count_at structs (number_in code)))
    (λ _. Ok (word_code code (field_type_at structs (number_in code) field)))
    (λ _. no_rule_told i))
    (λ _. no_rule_told i)

unfoldable pub cast_told : (mode : Mode) (i code : ℕ) → Result ℕ Refusal
cast_told mode i code = choose (castable_code mode code) (λ _. Ok code) (λ _. no_rule_told i)

module _ (structs types nodes : List ℕ) (mode : Mode) (i : ℕ) where
  -- a node with one part, of type x
  abbrev pub one_told : Operation → (x : ℕ) → Result ℕ Refusal
  one_told op.Literal x = no_rule_told i
  one_told op.Variable x = no_rule_told i
  one_told op.Let x = no_rule_told i
  one_told op.Malloc x = no_rule_told i
  one_told op.Unchecked x = Ok x
  one_told op.Cast x = cast_told mode i (node_number nodes i 2)
  one_told op.Read x = access_told types mode i x
  one_told (op.Acts o) x = no_rule_told i
  one_told op.Field x = field_told structs i (node_number nodes i 1) x
  one_told op.Unknown x = no_rule_told i

-- "the value part has that type exactly"
unfoldable pub assign_told : (types : List ℕ) (mode : Mode) (i x y : ℕ) → Result ℕ Refusal
assign_told types mode i x y =
    then_told (access_told types mode i x) (λ element. choose (eqb y element) (λ _. Ok element) (λ _. no_rule_told i))

-- what the left side of a sum may be: an int; under an access also a pointer to an array (tag 3)
abbrev pub summable : (access : Bool) (x : ℕ) → Bool
summable access x = either (eqb x 1) (both access (eqb (code_tag x) 3))

-- "both int, result int"; under an access the result is the left side's type, be it int or an array pointer
unfoldable pub sum_told : (i : ℕ) (access : Bool) (x y : ℕ) → Result ℕ Refusal
sum_told i access x y =
    choose (eqb y 1) (λ _. choose (summable access x) (λ _. Ok x) (λ _. no_rule_told i)) (λ _. no_rule_told i)

module _ (types : List ℕ) (mode : Mode) (i : ℕ) (access : Bool) where
  -- what is done with two values, of types x and y; as an access only a sum differs
  abbrev pub act_told : Act → (x y : ℕ) → Result ℕ Refusal
  act_told Assign x y = assign_told types mode i x y
  act_told Sum x y = sum_told i access x y

  -- a node with two parts, of types x and y
  abbrev pub two_told : Operation → (x y : ℕ) → Result ℕ Refusal
  two_told op.Literal x y = no_rule_told i
  two_told op.Variable x y = no_rule_told i
  two_told op.Let x y = Ok y
  two_told op.Malloc x y = no_rule_told i
  two_told op.Unchecked x y = no_rule_told i
  two_told op.Cast x y = no_rule_told i
  two_told op.Read x y = no_rule_told i
  two_told (op.Acts o) x y = act_told o x y
  two_told op.Field x y = no_rule_told i
  two_told op.Unknown x y = no_rule_told i

-- a literal is well typed if it comes before the first bad one
unfoldable pub literal_told : (nodes : List ℕ) (first i : ℕ) → Result ℕ Refusal
literal_told nodes first i = choose (ltb i first) (λ _. Ok (node_number nodes i 2)) (λ _. ill_typed i)

-- a variable, so many lets out
unfoldable pub variable_told : (bound : List ℕ) (lets i out : ℕ) → Result ℕ Refusal
variable_told bound lets i out = choose (ltb out lets) (λ _. Ok (get_or bound (lets - 1 - out) 0)) (λ _. no_rule_told i)

unfoldable pub malloc_told : (structs : List ℕ) (i code : ℕ) → Result ℕ Refusal
malloc_told structs i code = choose (ltb 0 (size_at structs code)) (λ _. Ok code) (λ _. no_rule_told i)

module _ (bound structs nodes : List ℕ) (first lets i : ℕ) where
  -- a node without parts
  abbrev pub leaf_told : Operation → Result ℕ Refusal
  leaf_told op.Literal = literal_told nodes first i
  leaf_told op.Variable = variable_told bound lets i (node_number nodes i 1)
  leaf_told op.Let = no_rule_told i
  leaf_told op.Malloc = malloc_told structs i (node_number nodes i 2)
  leaf_told op.Unchecked = no_rule_told i
  leaf_told op.Cast = no_rule_told i
  leaf_told op.Read = no_rule_told i
  leaf_told (op.Acts o) = no_rule_told i
  leaf_told op.Field = no_rule_told i
  leaf_told op.Unknown = no_rule_told i
