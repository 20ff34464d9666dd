-- What a node with one part gives once that is a value, by "Steps".
use Rattle.std.specs.Prelude.{ℕ, List}
use Rattle.calculus.specs.declared.Operation.{Operation}
use Rattle.calculus.specs.declared.Operation.TheVariants as op
use Rattle.yields.specs.declared.ArrayCounts.TheVariants.{Whole}
use Rattle.yields.specs.declared.Yield.{Yield}
use Rattle.yields.specs.declared.Yield.TheVariants.{Gives, Blocked}
use Rattle.yields.specs.Yields.{read_gives, field_gives}
use Rattle.machine.specs.declared.CodedValue.{CodedValue}

-- a node with one part, whose value is v; the argument and the kind are the node's own
unfoldable pub one_yield : (structs : List ℕ) (words : ℕ) → List ℕ → CodedValue → Operation → (argument kind : ℕ) → Yield
one_yield structs words ws v op.Unchecked argument kind = Gives v.value v.code
one_yield structs words ws v op.Cast argument kind = Gives v.value kind
one_yield structs words ws v op.Read argument kind = read_gives Whole ws words v.value v.code
one_yield structs words ws v op.Field argument kind = field_gives structs argument v.value v.code
one_yield structs words ws v op.Literal argument kind = Blocked
one_yield structs words ws v op.Variable argument kind = Blocked
one_yield structs words ws v op.Let argument kind = Blocked
one_yield structs words ws v op.Malloc argument kind = Blocked
one_yield structs words ws v (op.Acts o) argument kind = Blocked
one_yield structs words ws v op.Unknown argument kind = Blocked
