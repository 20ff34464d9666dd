-- The image, "in this order, all of it numbers": format, counts, structs, pointer types, cells, the expression; nothing after it.
use Rattle.std.specs.Prelude.{ℕ, List, [], ◌∷◌, eqb, ltb, length, drop}
use Rattle.choice.specs.Choice.{choose}
use Rattle.cells.specs.declared.Kind.TheVariants.{Int}
use Rattle.calculus.specs.Expr.{Expr}
use Rattle.calculus.specs.declared.Fault.TheVariants as fault
use Rattle.image.specs.Content.{format_one, Tables, Placed, Content}
use Rattle.image.specs.Parsing.{Parsed, got, refused, then_read, number, below, several, carried}
use Rattle.image.specs.Tables.{read_struct, read_types}
use Rattle.image.specs.Cells.{read_cells}
use Rattle.image.specs.Nodes.{read_node}
use Rattle.image.specs.declared.Format.{Format}

module _ (image : List ℕ) where
  -- "1, the format."
  unfoldable pub read_format : Parsed Format
  read_format = then_read (number image 0) (λ v at. choose (eqb v 1) (λ _. got format_one at) (λ _. refused fault.Format 0))

  -- "S, structs, 0 to 32, numbered from 0. T, pointer types, 0 to 255", and the tables of both; "Type 0 is int and isn't written."
  unfoldable pub read_tables : ℕ → Parsed Tables
  read_tables at =
      then_read (below fault.Limit 33 image at)
      (λ S at₁. then_read (below fault.Limit 256 image at₁)
      (λ T at₂. then_read (several (read_struct image T) S at₂)
      (λ structs at₃. then_read (read_types image S T (Int ∷ []) at₃)
      (λ types at₄. got (record { structs = structs; types = types }) at₄))))

  -- "After the tables, reading goes on in the part of the image that starts behind them."
  unfoldable pub read_expr : Tables → ℕ → Parsed Expr
  read_expr t at = carried at (read_node (drop at image) t 64 0 0 0)

  -- "nothing after it": bytes behind the expression are fault 8, at the first of them
  abbrev pub ending : {A : Type 0} → A → (next : ℕ) → Parsed A
  ending a next = choose (ltb next (length image)) (λ _. refused fault.Behind next) (λ _. got a next)

module _ (words : ℕ) (image : List ℕ) where
  -- "C, heap cells, 0 to 4,096"
  unfoldable pub read_placed : Tables → ℕ → Parsed (List Placed)
  read_placed t at =
      then_read (below fault.Limit 4097 image at) (λ C next. read_cells image words t.types C 0 next)

  -- "An image has at most 16,384 bytes." "The image's length is judged before anything is read."
  unfoldable pub read_image : Parsed Content
  read_image =
      choose (ltb 16384 (length image)) (λ _. refused fault.Limit 0) λ _.
      then_read (read_format image)
      (λ f at₁. then_read (read_tables image at₁)
      (λ t at₂. then_read (read_placed t at₂)
      (λ cells at₃. then_read (read_expr image t at₃)
      (λ e at₄. ending image (record { format = f; tables = t; cells = cells; expr = e }) at₄))))
