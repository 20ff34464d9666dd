-- What the reader of an image has seen to, and the lent lists' lengths, under which the judge's answer is the definition's.
use Rattle.std.specs.Prelude.{ℕ, suc, ◌≤◌, ◌<◌, max, List, [], ◌∷◌, length, get_or}
use Rattle.cells.specs.Code.{Small}
use Rattle.cells.specs.declared.Kind.TheVariants.{Int}
use Rattle.calculus.specs.Expr.{Expr, lit, var, malloc, bind, one, two}
use Rattle.image.specs.Shape.{SmallExpr}
use Rattle.image.specs.Content.{Placed, Content}

-- cells behind the address a: addresses rise, lie within the words, and kinds' numbers fit their codes
pub data CellsRise (words : ℕ) : ℕ → List Placed → Type 0 where
  none : {a : ℕ} → CellsRise words a []
  more : {a : ℕ} {p : Placed} {ps : List Placed} → a < p.address → p.address ≤ words → Small p.held.kind
      → CellsRise words p.address ps → CellsRise words a (p ∷ ps)

-- how many lets an expression nests; "A let's bound part is not inside that let."
unfoldable pub nested : Expr → ℕ
nested (lit n κ) = 0
nested (var k) = 0
nested (malloc ω) = 0
nested (bind a b) = max (nested a) (suc (nested b))
nested (one o e) = nested e
nested (two o a b) = max (nested a) (nested b)

pub record Readied (words : ℕ) (c : Content) (marks queue bound : List ℕ) : Type 0 where
  pub cells_rise : CellsRise words 0 c.cells
  pub types_small : (n : ℕ) → Small (get_or c.tables.types n Int)
  pub fields_small : (s i : ℕ) → get_or (get_or c.tables.structs s []) i 0 < 256
  pub expr_small : SmallExpr c.expr
  pub marks_room : length c.cells ≤ length marks
  pub queue_room : length c.cells ≤ length queue
  pub bound_room : nested c.expr ≤ length bound
