-- The heap cells: "For each: gap, value, word type number. A cell's address is the one before it plus the gap, starting from 0; a gap is
-- at least 1."
use Rattle.std.specs.Prelude.{ℕ, zero, suc, ◌+◌, List, [], ◌∷◌, eqb, ltb, length, get_or}
use Rattle.choice.specs.Choice.{choose}
use Rattle.cells.specs.declared.Kind.{Kind}
use Rattle.cells.specs.declared.Kind.TheVariants.{Int}
use Rattle.calculus.specs.declared.Fault.TheVariants as fault
use Rattle.calculus.specs.Setting.{cell}
use Rattle.image.specs.Content.{Placed}
use Rattle.image.specs.Parsing.{Parsed, got, refused, then_read, number, below}

-- the address behind `before` by the gap at `at`: a gap of 0 is fault 6, an address above W fault 7, both at the gap
unfoldable pub read_address : (image : List ℕ) (words before at : ℕ) → Parsed ℕ
read_address image words before at =
    then_read (number image at)
    (λ gap next.
    choose (eqb gap 0) (λ _. refused fault.Repeat at) λ _.
    choose (ltb words (before + gap)) (λ _. refused fault.Beyond at) (λ _. got (before + gap) next))

-- one cell behind the address `before`
unfoldable pub read_cell : (image : List ℕ) (words : ℕ) (types : List Kind) (before at : ℕ) → Parsed Placed
read_cell image words types before at =
    then_read (read_address image words before at)
    (λ address at₁. then_read (number image at₁)
    (λ value at₂. then_read (below fault.Unknown (length types) image at₂)
    (λ n at₃. got (record { address = address; held = cell value (get_or types n Int) }) at₃)))

-- `left` cells behind the address `before`
unfoldable pub read_cells : (image : List ℕ) (words : ℕ) (types : List Kind) (left before at : ℕ) → Parsed (List Placed)
read_cells image words types zero before at = got [] at
read_cells image words types (suc left) before at =
    then_read (read_cell image words types before at)
    (λ p at₁. then_read (read_cells image words types left p.address at₁) (λ ps at₂. got (p ∷ ps) at₂))
