-- Every node goes into the rows as the definition reads it. One induction, whose measure is the depth.
use Prim.Native.Nat.{ℕ, zero, suc, ◌+◌, ◌≤◌, ◌<◌}
use mathlib.Core.Path.{◌≡◌, refl}
use mathlib.Core.Bool.{Bool, true, false}
use mathlib.Core.List.{List, map}
use native.Mathlib.Omega.{arith}
use lib.Dec.{leb}
use lib.ListN.{length, get_or}
use borrow.Author.Tests.{leb-false}
use Rattle.choice.specs.Choice.{choose}
use Rattle.cells.specs.Code.{packed, Small}
use Rattle.cells.specs.declared.Kind.TheVariants.{Int}
use Rattle.calculus.specs.Expr.{Expr}
use Rattle.calculus.specs.Operations.{operation_of}
use Rattle.calculus.specs.declared.Fault.TheVariants as fault
use Rattle.image.specs.Content.{Tables}
use Rattle.image.specs.Parsing.{Parsed, refused, then_read, number}
use Rattle.image.specs.Nodes.{Head, head_of, read_head, read_parts, read_node}
use Rattle.reader.specs.Cursors.{reading_at}
use Rattle.reader.specs.Reads.{Reading, PartReader, node_rows, part_rows}
use Rattle.reader.proofs.Ending.{number_ending}
use Rattle.reader.proofs.Into.{StandsAt, RowRoom, IntoRows, stopped, crossing_into}
use Rattle.reader.proofs.Operations.{read_into, operation_in}

-- the test for one node too many
test_into : {image types t : List ℕ} {b : Bool} {i p at : ℕ} (c : Bool) (x y : Unit {0} → Reading) (x' y' : Unit {0} → Parsed Head)
    (K : Parsed Head → Parsed Expr) → (c ≡ true → IntoRows image types t b i p at (x tt) (K (x' tt)))
    → (c ≡ false → IntoRows image types t b i p at (y tt) (K (y' tt)))
    → IntoRows image types t b i p at (choose c x y) (K (choose c x' y'))
test_into true x y x' y' K f g = f refl
test_into false x y x' y' K f g = g refl

module _ (image : List ℕ) (near : length image < 274877906944) (tables : Tables) (types_few : length tables.types ≤ 256)
    (structs_few : length tables.structs ≤ 256) (small : (n : ℕ) → Small (get_or tables.types n Int)) where
  pub node_in_lem : (deep lets : ℕ) (b : Bool) (i p at : ℕ) (t : List ℕ) → lets + deep < 128 → StandsAt image i p at → RowRoom image t
      → IntoRows image (map packed tables.types) t b i p at
      (node_rows image (length tables.types) (length tables.structs) deep lets b (reading_at at i p) t)
      (read_node image tables deep lets i at)
  unfolding node_rows read_node read_head
  node_in_lem zero lets b i p at t low s room =
      read_into image (map packed tables.types) (number image at) _ (λ r. then_read r (λ _ _. refused fault.Limit at))
      (λ f q. refl) (number_ending image at s.within) (λ v next l w x. stopped s.within refl)
  node_in_lem (suc deep) lets b i p at t low s room =
      read_into image (map packed tables.types) (number image at) _
      (λ r. then_read (then_read r (λ code next. choose (leb 2048 i) (λ _. refused fault.Limit at) (λ _. head_of image tables lets at (operation_of code) next)))
      (λ h next. read_parts image tables (read_node image tables deep) lets i h next))
      (λ f q. refl) (number_ending image at s.within)
      (λ code next l w x. test_into (leb 2048 i) _ _ _ _ (λ r. then_read r (λ h next. read_parts image tables (read_node image tables deep) lets i h next))
      (λ _. stopped s.within refl)
      (λ e. operation_in image near tables types_few structs_few small deep (part_rows image (length tables.types) (length tables.structs) deep)
      (read_node image tables deep)
      (record { goes = λ lets b i p at t low s room. crossing_into image (map packed tables.types) near s.low (node_in_lem deep lets b i p at t low s room) })
      lets b low t i p at s room (leb-false 2048 i e) (operation_of code) next l w))
