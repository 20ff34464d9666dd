-- A state of the machine stands for the expression that remains under replacement: the part that begins at its row, or the value on its
-- stack, in the context of the rows behind it. Every value that is still to come has room on the stack and among the bound values.
use Rattle.std.proofs.Common.{◌≡◌, ℕ, suc, ◌+◌, ◌<◌, ◌≤◌, List, [], ◌∷◌, length, refl, ap}
use Rattle.cells.specs.declared.Mode.{Mode}
use Rattle.cells.specs.declared.Mode.TheVariants.{Checked}
use Rattle.cells.specs.declared.Cell.{Cell}
use Rattle.calculus.specs.Expr.{Expr, One, inside}
use Rattle.calculus.specs.declared.Act.{Act}
use Rattle.image.specs.Shape.{height}
use Rattle.tables.specs.Rows.{apply, join, hold, drop, stop, task_row, task_row_at}
use Rattle.tables.specs.Parts.{PartRows}
use Rattle.stepper.specs.Moves.{Standing, standing}
use Rattle.stepper.proofs.Close.{cell_lit, close}
use Rattle.calculus.proofs.Contexts.{Hole, in_one, in_bound, in_left, in_right, plugs, under}

module _ (types rows : List ℕ) (room : ℕ) where
  -- with a value on top of the stack, the rows from q on do what the context does with that value; m is the mode there
  pub data Kont : ℕ → (st ρ : List Cell) → Mode → List Hole → Type 0 where
    k_end : {q : ℕ} → (task_row_at types rows q).work ≡ stop → Kont q [] [] Checked []
    k_one : {q l i : ℕ} {st ρ : List Cell} {m : Mode} {K : List Hole} {o : One}
        → task_row_at types rows q ≡ task_row (apply o) m l i → Kont (suc q) st ρ m K → Kont q st ρ (inside o m) (in_one o ∷ K)
    k_left : {q r l i j : ℕ} {st ρ : List Cell} {m : Mode} {K : List Hole} {o : Act} {b : Expr}
        → PartRows types rows m j q b r → task_row_at types rows r ≡ task_row (join o) m l i
        → suc (length st) + height b ≤ room → length ρ + height b ≤ room
        → Kont (suc r) st ρ m K → Kont q st ρ m (in_left o (close 0 ρ b) ∷ K)
    k_right : {q l i : ℕ} {st ρ : List Cell} {m : Mode} {K : List Hole} {o : Act} {c : Cell}
        → task_row_at types rows q ≡ task_row (join o) m l i → Kont (suc q) st ρ m K → Kont q (c ∷ st) ρ m (in_right o c ∷ K)
    k_hold : {q r l i l' i' j : ℕ} {st ρ : List Cell} {m : Mode} {K : List Hole} {b : Expr}
        → task_row_at types rows q ≡ task_row hold m l i → PartRows types rows m j (suc q) b r → task_row_at types rows r ≡ task_row drop m l' i'
        → length st + height b ≤ room → suc (length ρ) + height b ≤ room
        → Kont (suc r) st ρ m K → Kont q st ρ m (in_bound (close 1 ρ b) ∷ K)
    k_drop : {q l i : ℕ} {st ρ : List Cell} {m m' : Mode} {K : List Hole} {c : Cell}
        → task_row_at types rows q ≡ task_row drop m' l i → Kont (suc q) st ρ m K → Kont q st (c ∷ ρ) m K

  -- a state stands for an expression
  pub data Sim : Standing → Expr → Type 0 where
    begin : {m : Mode} {i p q : ℕ} {e : Expr} {st ρ : List Cell} {K : List Hole}
        → PartRows types rows m i p e q → length st + height e ≤ room → length ρ + height e ≤ room → Kont q st ρ m K
        → Sim (standing p st ρ) (plugs K (close 0 ρ e))
    return : {m : Mode} {q : ℕ} {st ρ : List Cell} {K : List Hole}
        → (c : Cell) → length st < room → length ρ ≤ room → Kont q st ρ m K → Sim (standing q (c ∷ st) ρ) (plugs K (cell_lit c))

  -- the mode of a context is that of the code there
  pub kont_mode : {q : ℕ} {st ρ : List Cell} {m : Mode} {K : List Hole} → Kont q st ρ m K → under K ≡ m
  kont_mode (k_end x) = refl
  kont_mode (k_one {o} x k) = ap (inside o) (kont_mode k)
  kont_mode (k_left b x s n k) = kont_mode k
  kont_mode (k_right x k) = kont_mode k
  kont_mode (k_hold x b y s n k) = kont_mode k
  kont_mode (k_drop x k) = kont_mode k
