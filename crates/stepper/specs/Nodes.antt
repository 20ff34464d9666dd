-- What a node with one part gives, by its task.
use Rattle.std.specs.Prelude.{ℕ, List}
use Rattle.tables.specs.Kinds.{type_code_at}
use Rattle.tables.specs.declared.Task.{Task}
use Rattle.tables.specs.declared.Task.TheVariants as task
use Rattle.yields.specs.declared.ArrayCounts.TheVariants.{Cut}
use Rattle.yields.specs.declared.Yield.{Yield}
use Rattle.yields.specs.declared.Yield.TheVariants.{Gives, Blocked}
use Rattle.yields.specs.Yields.{read_gives, field_gives}

-- a node with one part, whose value v has that code of its kind; the slot and the datum are its row's
unfoldable pub one_gives : (structs types : List ℕ) (words : ℕ) → List ℕ → (v code : ℕ) → Task → (slot datum : ℕ) → Yield
one_gives structs types words ws v code task.Unchecked slot datum = Gives v code
one_gives structs types words ws v code task.Cast slot datum = Gives v (type_code_at types slot)
one_gives structs types words ws v code task.Read slot datum = read_gives Cut ws words v code
one_gives structs types words ws v code task.Field slot datum = field_gives structs datum v code
one_gives structs types words ws v code task.Stop slot datum = Blocked
one_gives structs types words ws v code task.Literal slot datum = Blocked
one_gives structs types words ws v code task.Variable slot datum = Blocked
one_gives structs types words ws v code task.Malloc slot datum = Blocked
one_gives structs types words ws v code (task.Acts o) slot datum = Blocked
one_gives structs types words ws v code task.Bind slot datum = Blocked
one_gives structs types words ws v code task.Unbind slot datum = Blocked
