-- The expression as it goes into the node table, in the shape of its definition (Nodes): a node's row is written before its parts are
-- read, and the number of its second part once the first is read. The types are the packed codes of the word types, and of the structs
-- only the count is told.
use Rattle.std.specs.Prelude.{ℕ, zero, suc, ◌+◌, ◌*◌, Bool, true, false, List, [], ◌∷◌, leb, length, get_or, set, drop, Result, Ok, Err}
use Rattle.std.specs.Int.{from_bool}
use Rattle.choice.specs.Choice.{choose}
use Rattle.cells.specs.declared.Mode.TheVariants.{Checked}
use Rattle.numbers.specs.declared.Read.{Read}
use Rattle.calculus.specs.Expr.{Expr, nodes}
use Rattle.calculus.specs.Operations.{operation_of}
use Rattle.calculus.specs.declared.Operation.{Operation}
use Rattle.calculus.specs.declared.Operation.TheVariants as op
use Rattle.calculus.specs.declared.Fault.TheVariants as fault
use Rattle.calculus.specs.declared.Refusal.{Refusal}
use Rattle.image.specs.Parsing.{Parsed, got, refused, then_read, number, below}
use Rattle.image.specs.Tables.{read_target}
use Rattle.image.specs.Answers.{refusal, with_next, mapped, pointer_code}
use Rattle.image.specs.Filled.{Filled, filled, then_fill, row_stored}
use Rattle.image.specs.Tabling.{on_read, on_filled}
use Rattle.image.specs.declared.NodeRow.{NodeRow}
use Rattle.image.specs.declared.Parts.{Parts}
use Rattle.image.specs.declared.Parts.TheVariants as parts

-- what stands behind a node's code, as its row has it, and the parts that follow
abbrev pub node_row : (argument kind : ℕ) → Parts → NodeRow
node_row a k p = record { argument = a; kind = k; parts = p }

-- row i of the table, the number of a second part not being known
abbrev pub written : List ℕ → (i code argument kind : ℕ) → List ℕ
written t i code argument kind = row_stored 4 t i (code ∷ argument ∷ kind ∷ 0 ∷ [])

-- what is answered of a node without its parts: which follow; and of an expression: how many nodes were read up to there
abbrev pub Headed : Type 0
Headed = Filled (Result (Read Parts) Refusal)

abbrev pub Noded : Type 0
Noded = Filled (Result (Read ℕ) Refusal)

-- what stands behind a node's code, into row i
abbrev pub row_into : List ℕ → (i code : ℕ) → Parsed NodeRow → Headed
row_into t i code r = on_read r t (λ row next. filled (Ok (with_next row.parts next)) (written t i code row.argument row.kind))

-- what the code answers for an expression that the definition reads behind i nodes
abbrev pub expression_answer : ℕ → Parsed Expr → Result (Read ℕ) Refusal
expression_answer i (got e next) = Ok (with_next (i + nodes e) next)
expression_answer i (refused f p) = Err (refusal f p)

-- the lets that a node's second part is inside of: "A let's bound part is not inside that let."
abbrev pub lets_inside : (lets : ℕ) (binds : Bool) → ℕ
lets_inside lets binds = lets + from_bool binds

-- the parts of node i, each read by `part`, which is told the lets around it, the nodes read before it and where it starts
abbrev pub parts_into : (ℕ → ℕ → ℕ → List ℕ → Noded) → (lets i : ℕ) → Parts → (at : ℕ) → List ℕ → Noded
parts_into part lets i parts.Leaf at t = filled (Ok (with_next (i + 1) at)) t
parts_into part lets i parts.One at t = part lets (i + 1) at t
parts_into part lets i (parts.Two binds) at t =
    on_filled (part lets (i + 1) at t)
    (λ first t'. part (lets_inside lets binds) first.value first.next (set t' (4 * i + 3) first.value))

module _ (image types : List ℕ) where
  -- a word type by its packed code
  unfoldable pub kind_code : ℕ → Parsed ℕ
  kind_code at = then_read (below fault.Unknown (length types) image at) (λ n next. got (get_or types n 0) next)

  -- a literal's value and word type
  unfoldable pub literal : (at : ℕ) → Parsed NodeRow
  literal at = then_read (number image at) (λ n at₁. then_read (kind_code at₁) (λ k at₂. got (node_row n k parts.Leaf) at₂))

module _ (image types : List ℕ) (structs : ℕ) where
  -- what stands behind a node's code and before its parts, by the operation that the code is
  unfoldable pub line_of : (lets first : ℕ) → Operation → (at : ℕ) → Parsed NodeRow
  line_of lets first op.Literal at = literal image types at
  line_of lets first op.Variable at = then_read (below fault.Unknown lets image at) (λ k at₁. got (node_row k 0 parts.Leaf) at₁)
  line_of lets first op.Let at = got (node_row 0 0 (parts.Two true)) at
  line_of lets first op.Malloc at =
      then_read (mapped (pointer_code Checked) (read_target image structs (length types) at)) (λ k at₁. got (node_row 0 k parts.Leaf) at₁)
  line_of lets first op.Unchecked at = got (node_row 0 0 parts.One) at
  line_of lets first op.Cast at = then_read (kind_code image types at) (λ k at₁. got (node_row 0 k parts.One) at₁)
  line_of lets first op.Read at = got (node_row 0 0 parts.One) at
  line_of lets first (op.Acts o) at = got (node_row 0 0 (parts.Two false)) at
  line_of lets first op.Field at = then_read (number image at) (λ f at₁. got (node_row f 0 parts.One) at₁)
  line_of lets first op.Unknown at = refused fault.Unknown first

  -- a node without its parts, into row i
  unfoldable pub head_into : (lets i at : ℕ) → List ℕ → Headed
  head_into lets i at t =
      on_read (number image at) t
      (λ code next.
      choose (leb 2048 i)
      (λ _. filled (Err (refusal fault.Limit at)) t)
      (λ _. row_into t i code (line_of lets at (operation_of code) next)))

  -- a node with its parts, at most `deep` deep, into the rows from i on; one level too many is fault 4 at its code, if that can be read
  unfoldable pub node_into : (deep lets i at : ℕ) → List ℕ → Noded
  node_into zero lets i at t = on_read (number image at) t (λ _ _. filled (Err (refusal fault.Limit at)) t)
  node_into (suc deep) lets i at t = on_filled (head_into lets i at t) (λ head t'. parts_into (node_into deep) lets i head.value head.next t')

-- what was read from `at` on, with places carried back to whole-image offsets
abbrev pub carried_back : (at : ℕ) → Result (Read ℕ) Refusal → Result (Read ℕ) Refusal
carried_back at (Ok r) = Ok (with_next r.value (at + r.next))
carried_back at (Err q) = Err (refusal q.fault (at + q.place))

-- the whole expression, which starts at `at`
unfoldable pub expression_into : (image types : List ℕ) (structs at : ℕ) → List ℕ → Noded
expression_into image types structs at t =
    then_fill (node_into (drop at image) types structs 64 0 0 0 t) (λ r t'. filled (carried_back at r) t')
