-- An expression under bound values: each variable is its value. Every variable becomes a literal, so that nothing is left to replace.
use Rattle.std.proofs.Common.{◌≡◌, ℕ, zero, suc, ◌-◌, ◌<◌, ltb, List, ◌∷◌, get_or, refl, ap, ap₂, arith, le-ltb, lt-ltb, eq-eqb}
use native.Mathlib.Decide.{dec_lt}
use Rattle.choice.specs.Choice.{choose}
use Rattle.cells.specs.declared.Cell.{Cell}
use Rattle.calculus.specs.Expr.{Expr, lit, var, malloc, bind, one, two}
use Rattle.calculus.specs.Steps.{replace}
use Rattle.image.specs.Shape.{Scoped, scoped_lit, scoped_var, scoped_malloc, scoped_bind, scoped_one, scoped_two}
use Rattle.stepper.specs.Moves.{nought}

abbrev pub cell_lit : Cell → Expr
cell_lit c = lit c.value c.kind

-- the variables d lets out and further become the bound values, the innermost first
unfoldable pub close : ℕ → List Cell → Expr → Expr
close d ρ (lit n κ) = lit n κ
close d ρ (var k) = choose (ltb k d) (λ _. var k) (λ _. cell_lit (get_or ρ (k - d) nought))
close d ρ (malloc ω) = malloc ω
close d ρ (bind a b) = bind (close d ρ a) (close (suc d) ρ b)
close d ρ (one o e) = one o (close d ρ e)
close d ρ (two o a b) = two o (close d ρ a) (close d ρ b)

-- Nothing becomes of an expression whose variables are all bound inside.
pub close_scoped : {d : ℕ} {e : Expr} (ρ : List Cell) → Scoped d e → close d ρ e ≡ e
unfolding close
close_scoped ρ scoped_lit = refl
close_scoped ρ (scoped_var {lets} {k} l) = rw (lt-ltb k lets l)
close_scoped ρ scoped_malloc = refl
close_scoped ρ (scoped_bind a b) = ap₂ bind (close_scoped ρ a) (close_scoped ρ b)
close_scoped ρ (scoped_one {o} e) = ap (one o) (close_scoped ρ e)
close_scoped ρ (scoped_two {o} a b) = ap₂ (two o) (close_scoped ρ a) (close_scoped ρ b)

-- What a variable is.
pub close_var : (ρ : List Cell) (k : ℕ) → close 0 ρ (var k) ≡ cell_lit (get_or ρ k nought)
unfolding close
close_var ρ k = let q : k - 0 ≡ k = omega arith in rw (le-ltb k 0 (omega arith), q)

-- A let's step.
variable : (d : ℕ) (c : Cell) (ρ : List Cell) (k : ℕ) → replace d c (close (suc d) ρ (var k)) ≡ close d (c ∷ ρ) (var k)
unfolding close replace
variable d c ρ k = go (dec_lt k d) (dec_lt d k)
  where
    go : Dec (k < d) → Dec (d < k) → replace d c (close (suc d) ρ (var k)) ≡ close d (c ∷ ρ) (var k)
    go (yes l) x = rw (lt-ltb k (suc d) (omega arith), lt-ltb k d l)
    go (no l) (yes g) =
        let q : k - d ≡ suc (k - suc d) = omega arith in
        rw (le-ltb k (suc d) (omega arith), le-ltb k d (omega arith), q)
    go (no l) (no g) =
        let q : k - d ≡ zero = omega arith in
        rw (lt-ltb k (suc d) (omega arith), le-ltb k d (omega arith), eq-eqb k d (omega arith), q)

pub close_more : (d : ℕ) (c : Cell) (ρ : List Cell) (e : Expr) → replace d c (close (suc d) ρ e) ≡ close d (c ∷ ρ) e
unfolding close replace
close_more d c ρ (lit n κ) = refl
close_more d c ρ (var k) = variable d c ρ k
close_more d c ρ (malloc ω) = refl
close_more d c ρ (bind a b) = ap₂ bind (close_more d c ρ a) (close_more (suc d) c ρ b)
close_more d c ρ (one o e) = ap (one o) (close_more d c ρ e)
close_more d c ρ (two o a b) = ap₂ (two o) (close_more d c ρ a) (close_more d c ρ b)
