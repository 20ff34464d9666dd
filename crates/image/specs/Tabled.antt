-- Content in lent tables of numbers, as the loader leaves it and as the judge and the machine take it: structs at a stride of 17 (field
-- count, then the fields' word type numbers), types (packed codes), cells at a stride of 3 (address, value, packed code of the kind), nodes
-- at a stride of 4 (code, argument, packed kind or target, number of the second part; the first part is the next node).
use Rattle.std.specs.Prelude.{ℕ, suc, ◌+◌, ◌*◌, ◌<◌, ◌≡◌, List, [], ◌∷◌, map, length, get_or}
use Rattle.cells.specs.Code.{packed}
use Rattle.cells.specs.declared.Mode.TheVariants.{Checked}
use Rattle.cells.specs.declared.Kind.{Kind}
use Rattle.calculus.specs.Expr.{Expr, lit, var, malloc, bind, one, two, nodes, One, unchecked, cast, read, field, Two, act, Target, pointer}
use Rattle.calculus.specs.Operations.{operation_of}
use Rattle.calculus.specs.declared.Operation.{Operation}
use Rattle.calculus.specs.declared.Operation.TheVariants as op
use Rattle.image.specs.Content.{Placed, Content}

-- structs: no more numbers than the structs take
pub record HeldStructs (t : List ℕ) (structs : List (List ℕ)) : Type 0 where
  pub long : length t ≡ 17 * length structs
  pub count : (s : ℕ) → get_or t (17 * s) 0 ≡ length (get_or structs s [])
  pub fields : (s i : ℕ) → i < length (get_or structs s []) → get_or t (17 * s + 1 + i) 0 ≡ get_or (get_or structs s []) i 0

-- cells
unfoldable pub cell_rows : List Placed → List ℕ
cell_rows [] = []
cell_rows (p ∷ ps) = p.address ∷ p.held.value ∷ packed p.held.kind ∷ cell_rows ps

-- what a node's row says of its operation
abbrev pub one_operation : One → Operation
one_operation unchecked = op.Unchecked
one_operation (cast κ) = op.Cast
one_operation read = op.Read
one_operation (field f) = op.Field

abbrev pub one_argument : One → ℕ
one_argument unchecked = 0
one_argument (cast κ) = 0
one_argument read = 0
one_argument (field f) = f

abbrev pub one_kind : One → ℕ
one_kind unchecked = 0
one_kind (cast κ) = packed κ
one_kind read = 0
one_kind (field f) = 0

abbrev pub two_operation : Two → Operation
two_operation (act o) = op.Acts o

-- row i of the node table
pub record Row (t : List ℕ) (i : ℕ) (operation : Operation) (argument kind second : ℕ) : Type 0 where
  pub operation_is : operation_of (get_or t (4 * i) 0) ≡ operation
  pub argument_is : get_or t (4 * i + 1) 0 ≡ argument
  pub kind_is : get_or t (4 * i + 2) 0 ≡ kind
  pub second_is : get_or t (4 * i + 3) 0 ≡ second

-- the node table holds the expression from node i on
pub data Spans (t : List ℕ) : ℕ → Expr → Type 0 where
  s_lit : {i n : ℕ} {κ : Kind} → Row t i op.Literal n (packed κ) 0 → Spans t i (lit n κ)
  s_var : {i k : ℕ} → Row t i op.Variable k 0 0 → Spans t i (var k)
  s_malloc : {i : ℕ} {ω : Target} → Row t i op.Malloc 0 (packed (pointer Checked ω)) 0 → Spans t i (malloc ω)
  s_bind : {i : ℕ} {a b : Expr} → Row t i op.Let 0 0 (suc i + nodes a) → Spans t (suc i) a → Spans t (suc i + nodes a) b → Spans t i (bind a b)
  s_one : {i : ℕ} {o : One} {e : Expr} → Row t i (one_operation o) (one_argument o) (one_kind o) 0 → Spans t (suc i) e → Spans t i (one o e)
  s_two : {i : ℕ} {o : Two} {a b : Expr} → Row t i (two_operation o) 0 0 (suc i + nodes a) → Spans t (suc i) a → Spans t (suc i + nodes a) b
      → Spans t i (two o a b)

-- the tables hold the content
pub record Held (c : Content) (structs types cells table : List ℕ) : Type 0 where
  pub structs_held : HeldStructs structs c.tables.structs
  pub types_held : types ≡ map packed c.tables.types
  pub cells_held : cells ≡ cell_rows c.cells
  pub nodes_held : Spans table 0 c.expr
  pub nodes_fill : length table ≡ 4 * nodes c.expr
