-- The tables of structs and pointer types.
use Rattle.std.specs.Prelude.{ℕ, zero, suc, Bool, false, List, [], ◌∷◌, ◌++◌, eqb, length}
use Rattle.choice.specs.Choice.{choose, either}
use Rattle.cells.specs.Code.{mode_of}
use Rattle.cells.specs.Same.{same_kind}
use Rattle.cells.specs.declared.Kind.{Kind}
use Rattle.calculus.specs.Expr.{Target, to_word, to_struct, to_array, pointer}
use Rattle.calculus.specs.declared.Fault.TheVariants as fault
use Rattle.image.specs.Parsing.{Parsed, got, refused, then_read, below, several}

-- "For each struct: its field count, 1 to 16, and the word type number of each field, 0 to T."
unfoldable pub read_struct : (image : List ℕ) (T at : ℕ) → Parsed (List ℕ)
read_struct image T at =
    then_read (below fault.Limit 17 image at)
    (λ count next. choose (eqb count 0) (λ _. refused fault.Limit at) (λ _. several (below fault.Unknown (suc T) image) count next))

-- "A target is 0 and a word type number; or 1 and a struct number; or 2, an element count 0 to 65,535 and a word type number." The word
-- types known are those below `known`, the structs those below S.
unfoldable pub read_target : (image : List ℕ) (S known at : ℕ) → Parsed Target
read_target image S known at =
    then_read (below fault.Unknown 3 image at)
    (λ kind next.
    choose (eqb kind 0) (λ _. then_read (below fault.Unknown known image next) (λ n at₁. got (to_word n) at₁)) λ _.
    choose (eqb kind 1) (λ _. then_read (below fault.Unknown S image next) (λ s at₁. got (to_struct s) at₁)) λ _.
    then_read (below fault.Limit 65536 image next)
    (λ k at₁. then_read (below fault.Unknown known image at₁) (λ n at₂. got (to_array k n) at₂)))

-- "mode (0 checked, 1 unchecked), then a target". "In the type list a target's word type number is below the entry's own; another counts
-- as unknown."
unfoldable pub read_entry : (image : List ℕ) (S own at : ℕ) → Parsed Kind
read_entry image S own at =
    then_read (below fault.Unknown 2 image at)
    (λ mode next. then_read (read_target image S own next) (λ ω at₁. got (pointer (mode_of mode) ω) at₁))

unfoldable pub is_among : Kind → List Kind → Bool
is_among κ [] = false
is_among κ (τ ∷ τs) = either (same_kind κ τ) (is_among κ τs)

-- "For each pointer type, numbered 1 to T": `left` more behind those that were read. "No two entries are equal, so equal types have equal
-- numbers."
unfoldable pub read_types : (image : List ℕ) (S left : ℕ) (types : List Kind) (at : ℕ) → Parsed (List Kind)
read_types image S zero types at = got types at
read_types image S (suc left) types at =
    then_read (read_entry image S (length types) at)
    (λ κ next. choose (is_among κ types) (λ _. refused fault.Repeat at) (λ _. read_types image S left (types ++ κ ∷ []) next))
