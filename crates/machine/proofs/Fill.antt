-- An expression with bound values in the place of its variables: nothing changes without values, a let's step brings in one more value, and
-- a bound variable becomes its value.
use Rattle.std.proofs.Common.{◌≡◌, ℕ, zero, suc, pred, ◌+◌, ◌-◌, ◌<◌, ◌≤◌, ltb, List, [], ◌∷◌, length, get_or, refl, ap, ap₂, arith, le-ltb, lt-ltb, eq-eqb, ne_eqb}
use native.Mathlib.Decide.{dec_lt, ℕ_discrete}
use Rattle.choice.specs.Choice.{choose}
use Rattle.cells.specs.declared.Kind.TheVariants.{Int}
use Rattle.cells.specs.declared.Cell.{Cell}
use Rattle.calculus.specs.Setting.{cell}
use Rattle.calculus.specs.Expr.{Expr, lit, var, malloc, bind, one, two}
use Rattle.calculus.specs.Steps.{replace}

-- the variable j lets out, behind d that stay: one of the values, the innermost first, or a variable still
pub value_of : (d j : ℕ) → List Cell → Expr
value_of d j [] = var (d + j)
value_of d zero (c ∷ ρ) = lit c.value c.kind
value_of d (suc j) (c ∷ ρ) = value_of d j ρ

-- the values take the place of the variables behind d
unfoldable pub fill : ℕ → List Cell → Expr → Expr
fill d ρ (lit n κ) = lit n κ
fill d ρ (var k) = choose (ltb k d) (λ _. var k) (λ _. value_of d (k - d) ρ)
fill d ρ (malloc ω) = malloc ω
fill d ρ (bind a b) = bind (fill d ρ a) (fill (suc d) ρ b)
fill d ρ (one o e) = one o (fill d ρ e)
fill d ρ (two o a b) = two o (fill d ρ a) (fill d ρ b)

pub fill_none : (d : ℕ) (e : Expr) → fill d [] e ≡ e
unfolding fill value_of
fill_none d (lit n κ) = refl
fill_none d (var k) = go (dec_lt k d)
  where
    go : Dec (k < d) → choose (ltb k d) (λ _. var k) (λ _. var (d + (k - d))) ≡ var k
    go (yes h) = rw (lt-ltb k d h)
    go (no n) = let e : d + (k - d) ≡ k = omega arith in rw (le-ltb k d (omega arith), e)
fill_none d (malloc ω) = refl
fill_none d (bind a b) = ap₂ bind (fill_none d a) (fill_none (suc d) b)
fill_none d (one o e) = ap (one o) (fill_none d e)
fill_none d (two o a b) = ap₂ (two o) (fill_none d a) (fill_none d b)

replace_value : (d j : ℕ) (c : Cell) (ρ : List Cell) → replace d c (value_of (suc d) j ρ) ≡ value_of d j ρ
unfolding replace value_of
replace_value d j c [] =
    let e : pred (suc d + j) ≡ d + j = omega arith in
    rw (le-ltb (suc d + j) d (omega arith), ne_eqb (suc d + j) d (omega arith), e)
replace_value d zero c (x ∷ ρ) = refl
replace_value d (suc j) c (x ∷ ρ) = replace_value d j c ρ

-- E-Let: the value takes its place before those that stood there already
pub fill_more : (d : ℕ) (c : Cell) (ρ : List Cell) (e : Expr) → replace d c (fill (suc d) ρ e) ≡ fill d (c ∷ ρ) e
unfolding fill replace value_of
fill_more d c ρ (lit n κ) = refl
fill_more d c ρ (var k) = go (dec_lt k d) (ℕ_discrete k d)
  where
    further : suc d ≤ k → k - d ≡ suc (k - suc d)
    further h = omega arith

    go : Dec (k < d) → Dec (k ≡ d)
        → replace d c (choose (ltb k (suc d)) (λ _. var k) (λ _. value_of (suc d) (k - suc d) ρ))
        ≡ choose (ltb k d) (λ _. var k) (λ _. value_of d (k - d) (c ∷ ρ))
    go (yes h) e = rw (lt-ltb k (suc d) (omega arith), lt-ltb k d h)
    go (no n) (yes e) =
        let z : k - d ≡ 0 = omega arith in
        rw (lt-ltb k (suc d) (omega arith), le-ltb k d (omega arith), eq-eqb k d e, z)
    go (no n) (no n') =
        rw (le-ltb k (suc d) (omega arith), le-ltb k d (omega arith), further (omega arith)) (replace_value d (k - suc d) c ρ)
fill_more d c ρ (malloc ω) = refl
fill_more d c ρ (bind a b) = ap₂ bind (fill_more d c ρ a) (fill_more (suc d) c ρ b)
fill_more d c ρ (one o e) = ap (one o) (fill_more d c ρ e)
fill_more d c ρ (two o a b) = ap₂ (two o) (fill_more d c ρ a) (fill_more d c ρ b)

-- a bound variable is its value
pub fill_bound : (k : ℕ) (ρ : List Cell) → k < length ρ
    → fill 0 ρ (var k) ≡ lit (get_or ρ k (cell 0 Int)).value (get_or ρ k (cell 0 Int)).kind
unfolding fill value_of
fill_bound k ρ l = let e : k - 0 ≡ k = omega arith in rw (le-ltb k 0 (omega arith), e) (go k ρ l)
  where
    go : (k : ℕ) (ρ : List Cell) → k < length ρ → value_of 0 k ρ ≡ lit (get_or ρ k (cell 0 Int)).value (get_or ρ k (cell 0 Int)).kind
    go k [] l = absurd (omega arith)
    go zero (c ∷ ρ) l = refl
    go (suc k) (c ∷ ρ) l = go k ρ (omega arith)
