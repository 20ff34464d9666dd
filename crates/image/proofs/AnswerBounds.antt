-- How large what the code is answered can be. Each fact begins with an equation between the reading and itself: by that call the search
-- finds it. Assumes nothing.
use mathlib.Core.Path.{◌≡◌, refl}
use mathlib.Core.List.{List}
use Prim.Native.Nat.{ℕ, ◌<◌, ◌≤◌}
use native.Mathlib.Omega.{arith}
use Rattle.std.specs.Prelude.{IfOk}
use Rattle.image.specs.declared.TableCounts.{TableCounts}
use Rattle.image.specs.Tabling.{counts_at, tables_into, front_into, read_row}
use Rattle.image.specs.Cells.{read_address}
use Rattle.image.specs.Filling.{head_into}
use Rattle.image.proofs.Numbers.{below_small}
use Rattle.image.proofs.Gives.{IfGot}

-- the counts of structs and pointer types are within their limits
abbrev pub Few : TableCounts → Type 0
Few c = (c.structs ≤ 32) × (c.types ≤ 255)

pub counts_small : (image : List ℕ) (at : ℕ) → (counts_at image at ≡ counts_at image at) × IfGot (counts_at image at) (λ c _. Few c)
unfolding counts_at
counts_small image at = (refl, grind (arith, below_small))

pub tables_small : (image : List ℕ) (at : ℕ) (ss ts : List ℕ)
    → (tables_into image at ss ts ≡ tables_into image at ss ts) × IfOk (tables_into image at ss ts).result (λ c. Few c.value)
unfolding tables_into
tables_small image at ss ts = (refl, grind (arith, counts_small))

pub front_small : (words : ℕ) (image ss ts cs : List ℕ)
    → (front_into words image ss ts cs ≡ front_into words image ss ts cs) × IfOk (front_into words image ss ts cs).result (λ f. Few f.value.counts)
unfolding front_into
front_small words image ss ts cs = (refl, grind (arith, tables_small))

-- no address that was read is above W
pub row_small : (image : List ℕ) (words known before at : ℕ) → (read_row image words known before at ≡ read_row image words known before at)
    × IfGot (read_row image words known before at) (λ c _. c.address ≤ words)
unfolding read_row read_address
row_small image words known before at = (refl, grind (arith))

-- where a node's head was read there was room for the node
pub head_small : (image types : List ℕ) (structs lets i at : ℕ) (t : List ℕ)
    → (head_into image types structs lets i at t ≡ head_into image types structs lets i at t)
    × IfOk (head_into image types structs lets i at t).result (λ _. i < 2048)
unfolding head_into
head_small image types structs lets i at t = (refl, grind (arith))
