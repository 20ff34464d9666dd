-- How the parts of a node are judged, by what the node does.
use Rattle.std.specs.Prelude.{ℕ, ◌+◌, Bool, true, false, not, List, set}
use Rattle.choice.specs.Choice.{choose}
use Rattle.cells.specs.declared.Mode.{Mode}
use Rattle.cells.specs.declared.Mode.TheVariants.{Unchecked}
use Rattle.calculus.specs.Typing.{Role, whole, access, act_role}
use Rattle.calculus.specs.declared.Operation.{Operation}
use Rattle.calculus.specs.declared.Operation.TheVariants as op

-- how many there are
abbrev pub parts_of : Operation → ℕ
parts_of op.Literal = 0
parts_of op.Variable = 0
parts_of op.Let = 2
parts_of op.Malloc = 0
parts_of op.Unchecked = 1
parts_of op.Cast = 1
parts_of op.Read = 1
parts_of (op.Acts o) = 2
parts_of op.Field = 1
parts_of op.Unknown = 0

-- a role as the code tells it
abbrev pub as_access : Role → Bool
as_access whole = false
as_access access = true

-- the node accesses through its first part
abbrev pub is_access : Operation → Bool
is_access op.Literal = false
is_access op.Variable = false
is_access op.Let = false
is_access op.Malloc = false
is_access op.Unchecked = false
is_access op.Cast = false
is_access op.Read = true
is_access (op.Acts o) = as_access (act_role o)
is_access op.Field = false
is_access op.Unknown = false

-- it acts on two parts that are judged each as a whole
abbrev pub on_wholes : Operation → Bool
on_wholes op.Literal = false
on_wholes op.Variable = false
on_wholes op.Let = false
on_wholes op.Malloc = false
on_wholes op.Unchecked = false
on_wholes op.Cast = false
on_wholes op.Read = false
on_wholes (op.Acts o) = not (as_access (act_role o))
on_wholes op.Field = false
on_wholes op.Unknown = false

-- the mode of its first part
abbrev pub inner_mode : Operation → Mode → Mode
inner_mode op.Literal mode = mode
inner_mode op.Variable mode = mode
inner_mode op.Let mode = mode
inner_mode op.Malloc mode = mode
inner_mode op.Unchecked mode = Unchecked
inner_mode op.Cast mode = mode
inner_mode op.Read mode = mode
inner_mode (op.Acts o) mode = mode
inner_mode op.Field mode = mode
inner_mode op.Unknown mode = mode

abbrev pub is_let : Operation → Bool
is_let op.Literal = false
is_let op.Variable = false
is_let op.Let = true
is_let op.Malloc = false
is_let op.Unchecked = false
is_let op.Cast = false
is_let op.Read = false
is_let (op.Acts o) = false
is_let op.Field = false
is_let op.Unknown = false

-- the lets around its second part, and the kinds of bound variables there
abbrev pub inner_lets : Operation → ℕ → ℕ
inner_lets o lets = choose (is_let o) (λ _. lets + 1) (λ _. lets)

abbrev pub bound_with : Operation → (lets x : ℕ) → List ℕ → List ℕ
bound_with o lets x bound = choose (is_let o) (λ _. set bound lets x) (λ _. bound)
