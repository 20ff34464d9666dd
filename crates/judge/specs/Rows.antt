-- Numbers of the node table and of the cell table by their place, 0 where there is none.
use Rattle.std.specs.Prelude.{ℕ, ◌+◌, ◌*◌, ◌/◌, List, ltb, length, get_or}
use Rattle.choice.specs.Choice.{choose}
use Rattle.calculus.specs.Operations.{operation_of}
use Rattle.calculus.specs.declared.Operation.{Operation}

-- number k of row i of a table whose rows have this width; a row that isn't whole isn't there
unfoldable pub table_number : (width : ℕ) (table : List ℕ) (i k : ℕ) → ℕ
table_number width table i k = choose (ltb i (length table / width)) (λ _. get_or table (width * i + k) 0) (λ _. 0)

-- number k of node i's row: code, argument, packed kind or target, number of the second part
abbrev pub node_number : List ℕ → ℕ → ℕ → ℕ
node_number nodes i k = table_number 4 nodes i k

-- what node i does, by its code
abbrev pub operation_at : List ℕ → ℕ → Operation
operation_at nodes i = operation_of (node_number nodes i 0)

-- number k of entry j of the cell table: address, value, code of the kind
abbrev pub entry_at : List ℕ → ℕ → ℕ → ℕ
entry_at cells j k = table_number 3 cells j k
