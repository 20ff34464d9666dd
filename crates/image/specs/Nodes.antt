-- The expression: nodes "written before their parts". "At most 2,048 nodes; an expression nests at most 64 deep, the root being depth 1."
use Rattle.std.specs.Prelude.{ℕ, zero, suc, ◌+◌, List, leb, length, get_or}
use Rattle.choice.specs.Choice.{choose}
use Rattle.cells.specs.declared.Kind.{Kind}
use Rattle.cells.specs.declared.Kind.TheVariants.{Int}
use Rattle.calculus.specs.Expr.{Expr, lit, var, malloc, bind, one, two, nodes, One, unchecked, cast, read, field, Two, act}
use Rattle.calculus.specs.Operations.{operation_of}
use Rattle.calculus.specs.declared.Operation.{Operation}
use Rattle.calculus.specs.declared.Operation.TheVariants as op
use Rattle.calculus.specs.declared.Fault.TheVariants as fault
use Rattle.image.specs.Content.{Tables}
use Rattle.image.specs.Parsing.{Parsed, got, refused, then_read, number, below}
use Rattle.image.specs.Tables.{read_target}

-- a node without its parts: a whole expression; what is done with one part, or with two; or a let
pub data Head : Type 0 where
  leaf : Expr → Head
  part : One → Head
  parts : Two → Head
  binding : Head

module _ (image : List ℕ) (tables : Tables) where
  -- a word type number, 0 to T
  abbrev pub read_kind : ℕ → Parsed Kind
  read_kind at =
      then_read (below fault.Unknown (length tables.types) image at) (λ n next. got (get_or tables.types n Int) next)

  -- what stands behind a node's code and before its parts, by the operation that the code is; the code itself is at `first`, and the node
  -- is inside `lets` lets
  unfoldable pub head_of : (lets first : ℕ) → Operation → (at : ℕ) → Parsed Head
  head_of lets first op.Literal at =
      then_read (number image at) (λ n at₁. then_read (read_kind at₁) (λ κ at₂. got (leaf (lit n κ)) at₂))
  head_of lets first op.Variable at = then_read (below fault.Unknown lets image at) (λ k at₁. got (leaf (var k)) at₁)
  head_of lets first op.Let at = got binding at
  head_of lets first op.Malloc at =
      then_read (read_target image (length tables.structs) (length tables.types) at) (λ ω at₁. got (leaf (malloc ω)) at₁)
  head_of lets first op.Unchecked at = got (part unchecked) at
  head_of lets first op.Cast at = then_read (read_kind at) (λ κ at₁. got (part (cast κ)) at₁)
  head_of lets first op.Read at = got (part read) at
  head_of lets first (op.Acts o) at = got (parts (act o)) at
  head_of lets first op.Field at = then_read (number image at) (λ f at₁. got (part (field f)) at₁)
  head_of lets first op.Unknown at = refused fault.Unknown first

  -- a node without its parts, where `before` nodes were read; one node too many is fault 4, at its code
  unfoldable pub read_head : (lets before at : ℕ) → Parsed Head
  read_head lets before at =
      then_read (number image at)
      (λ code next. choose (leb 2048 before) (λ _. refused fault.Limit at) (λ _. head_of lets at (operation_of code) next))

  -- the parts of a node, each read by `part'`, which is told the lets around it, the nodes read before it and where it starts. "A let's
  -- bound part is not inside that let."
  unfoldable pub read_parts : (ℕ → ℕ → ℕ → Parsed Expr) → (lets before : ℕ) → Head → ℕ → Parsed Expr
  read_parts part' lets before (leaf e) at = got e at
  read_parts part' lets before (part o) at = then_read (part' lets (suc before) at) (λ e next. got (one o e) next)
  read_parts part' lets before (parts o) at =
      then_read (part' lets (suc before) at)
      (λ a at₁. then_read (part' lets (suc before + nodes a) at₁) (λ b at₂. got (two o a b) at₂))
  read_parts part' lets before binding at =
      then_read (part' lets (suc before) at)
      (λ a at₁. then_read (part' (suc lets) (suc before + nodes a) at₁) (λ b at₂. got (bind a b) at₂))

  -- a node with its parts, at most `deep` deep; one level too many is fault 4, at the node's code
  unfoldable pub read_node : (deep lets before at : ℕ) → Parsed Expr
  read_node zero lets before at = then_read (number image at) (λ _ _. refused fault.Limit at)
  read_node (suc deep) lets before at =
      then_read (read_head lets before at) (λ h next. read_parts (read_node deep) lets before h next)
