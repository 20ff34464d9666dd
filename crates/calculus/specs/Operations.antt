-- What a node does, by its code: the operations in the order of their codes, from 0 on.
use Rattle.std.specs.Prelude.{ℕ, List, [], ◌∷◌, get_or}
use Rattle.calculus.specs.declared.Act.TheVariants.{Assign, Sum}
use Rattle.calculus.specs.declared.Operation.{Operation}
use Rattle.calculus.specs.declared.Operation.TheVariants.{Literal, Variable, Let, Malloc, Unchecked, Cast, Read, Acts, Field, Unknown}

-- "0 literal (value, word type); 1 variable (how many lets out, 0 the innermost); 2 let (bound part, body); 3 malloc (target); 4 unchecked
-- (part); 5 cast (word type, part); 6 read through a pointer (part); 7 assign (pointer part, value part); 8 sum (two parts); 9 field
-- address (field number from 0, part)"
abbrev pub operations : List Operation
operations = Literal ∷ Variable ∷ Let ∷ Malloc ∷ Unchecked ∷ Cast ∷ Read ∷ Acts Assign ∷ Acts Sum ∷ Field ∷ []

-- any other code is unknown
unfoldable pub operation_of : (code : ℕ) → Operation
operation_of code = get_or operations code Unknown
