-- The frames and the bound values as the machine leaves them: what context they hold, how many transitions it still takes, and that a frame
-- or a value that is put above keeps all below.
use Rattle.std.proofs.Common.{◌≡◌, ℕ, zero, suc, ◌+◌, ◌-◌, ◌*◌, ◌/◌, ◌<◌, ◌≤◌, Bool, true, false, List, [], ◌∷◌, length, get_or, ◌∙◌, arith, Some, None}
use Rattle.cells.specs.Code.{packed, Small}
use Rattle.cells.specs.Lent.{put_word}
use Rattle.cells.specs.declared.Mode.{Mode}
use Rattle.cells.specs.declared.Mode.TheVariants.{Checked, Unchecked}
use Rattle.cells.specs.declared.Kind.TheVariants.{Int}
use Rattle.cells.specs.declared.Cell.{Cell}
use Rattle.calculus.specs.Setting.{cell}
use Rattle.calculus.specs.Expr.{Expr, lit, var, malloc, bind, one, two, One, nodes}
use Rattle.calculus.specs.declared.Act.{Act}
use Rattle.calculus.specs.declared.Operation.TheVariants.{Let, Acts}
use Rattle.image.specs.Tabled.{Row, Spans, one_operation, one_argument, one_kind}
use Rattle.image.specs.Shape.{Scoped, SmallOne, SmallExpr, small_one, height}
use Rattle.machine.specs.declared.CodedValue.{CodedValue}
use Rattle.machine.specs.States.{coded_value}
use Rattle.machine.specs.Rows.{frame_row, frame_at}
use Rattle.machine.proofs.Memory.{SameBelow, BoundWord, word_other}
use Rattle.calculus.proofs.Contexts.{Hole, in_one, in_bound, in_left, in_right, under}
use Rattle.machine.proofs.Fill.{fill}

-- the kind in a node with one part has numbers that fit, and so have the part's
pub small_node : {o : One} {e : Expr} → SmallExpr (one o e) → SmallOne o
small_node (small_one o s) = o

pub small_part : {o : One} {e : Expr} → SmallExpr (one o e) → SmallExpr e
small_part (small_one o s) = s

-- how many transitions an expression takes: its node is entered once, and each part hands back one value
unfoldable pub ticks : Expr → ℕ
ticks (lit n κ) = 1
ticks (var k) = 1
ticks (malloc ω) = 1
ticks (bind a b) = 3 + ticks a + ticks b
ticks (one o e) = 2 + ticks e
ticks (two o a b) = 3 + ticks a + ticks b

pub few_ticks : (e : Expr) → ticks e < 4 * nodes e
unfolding ticks nodes
few_ticks (lit n κ) = omega arith
few_ticks (var k) = omega arith
few_ticks (malloc ω) = omega arith
few_ticks (bind a b) = omega (arith, few_ticks a, few_ticks b)
few_ticks (one o e) = omega (arith, few_ticks e)
few_ticks (two o a b) = omega (arith, few_ticks a, few_ticks b)

-- whether code of a mode lies inside an unchecked block
abbrev pub mode_inside : Mode → Bool
mode_inside Checked = false
mode_inside Unchecked = true

-- the value of a cell, with the code of its kind
abbrev pub held : Cell → CodedValue
held c = coded_value c.value (packed c.kind)

-- a part that is entered later: it stands in the table, inside so many lets, and there is room for it above `above` frames
pub record Waits (t : List ℕ) (R j lets above : ℕ) (e : Expr) : Type 0 where
  pub spans : Spans t j e
  pub scoped : Scoped lets e
  pub small : SmallExpr e
  pub room : above + height e ≤ R

-- Stack t R frames height ρ K left: so many frames hold the context K, the values ρ are bound there, the innermost first, and to hand a
-- value back takes `left` transitions. There is room for R frames.
pub data Stack (t : List ℕ) (R : ℕ) (frames : List ℕ) : (height : ℕ) → List Cell → List Hole → (left : ℕ) → Type 0 where
  bottom : Stack t R frames 0 [] [] 0
  on_one : {h l i : ℕ} {ρ : List Cell} {K : List Hole} {o : One} → Stack t R frames h ρ K l
      → frame_at frames h ≡ frame_row i (mode_inside (under K)) None → Row t i (one_operation o) (one_argument o) (one_kind o) 0 → SmallOne o
      → Stack t R frames (suc h) ρ (in_one o ∷ K) (l + 1)
  on_bound : {h l i j : ℕ} {ρ : List Cell} {K : List Hole} {b : Expr} → Stack t R frames h ρ K l
      → frame_at frames h ≡ frame_row i (mode_inside (under K)) None → Row t i Let 0 0 j → Waits t R j (suc (length ρ)) (suc h) b
      → Stack t R frames (suc h) ρ (in_bound (fill 1 ρ b) ∷ K) (l + 2 + ticks b)
  on_left : {h l i j : ℕ} {ρ : List Cell} {K : List Hole} {o : Act} {b : Expr} → Stack t R frames h ρ K l
      → frame_at frames h ≡ frame_row i (mode_inside (under K)) None → Row t i (Acts o) 0 0 j → Waits t R j (length ρ) (suc h) b
      → Stack t R frames (suc h) ρ (in_left o (fill 0 ρ b) ∷ K) (l + 2 + ticks b)
  on_right : {h l i j : ℕ} {ρ : List Cell} {K : List Hole} {o : Act} {c : Cell} → Stack t R frames h ρ K l
      → frame_at frames h ≡ frame_row i (mode_inside (under K)) (Some (held c)) → Row t i (Acts o) 0 0 j → Small c.kind
      → Stack t R frames (suc h) ρ (in_right o c ∷ K) (l + 1)
  on_body : {h l i j : ℕ} {ρ : List Cell} {K : List Hole} {c : Cell} → Stack t R frames h ρ K l
      → frame_at frames h ≡ frame_row i (mode_inside (under K)) (Some (held c)) → Row t i Let 0 0 j
      → Stack t R frames (suc h) (c ∷ ρ) K (l + 1)

-- the values stand in the lent list as words in a heap, the outermost at address 1
pub data Env (bound : List ℕ) : List Cell → Type 0 where
  no_lets : Env bound []
  one_let : {ρ : List Cell} {c : Cell} → Env bound ρ → BoundWord bound (suc (length ρ)) c.value (packed c.kind) → Small c.kind
      → Env bound (c ∷ ρ)

-- where the rows below are as they were, so is the stack
pub stack_kept : {t frames frames' : List ℕ} {R h i l : ℕ} {ρ : List Cell} {K : List Hole} → SameBelow i frames frames' → h ≤ i
    → Stack t R frames h ρ K l → Stack t R frames' h ρ K l
stack_kept b m bottom = bottom
stack_kept b m (on_one s e r o) = on_one (stack_kept b (omega arith) s) (b.frame_same _ (omega arith) ∙ e) r o
stack_kept b m (on_bound s e r w) = on_bound (stack_kept b (omega arith) s) (b.frame_same _ (omega arith) ∙ e) r w
stack_kept b m (on_left s e r w) = on_left (stack_kept b (omega arith) s) (b.frame_same _ (omega arith) ∙ e) r w
stack_kept b m (on_right s e r o) = on_right (stack_kept b (omega arith) s) (b.frame_same _ (omega arith) ∙ e) r o
stack_kept b m (on_body s e r) = on_body (stack_kept b (omega arith) s) (b.frame_same _ (omega arith) ∙ e) r

-- a value that is bound inside keeps those outside
pub env_kept : {bound : List ℕ} {ρ : List Cell} (i v c : ℕ) → length ρ ≤ i → i < length bound / 2 → Env bound ρ
    → Env (put_word bound (suc i) v c) ρ
env_kept i v c m h no_lets = no_lets
env_kept {bound} i v c m h (one_let {ρ} e w s) =
    one_let (env_kept i v c (omega arith) h e) (word_other bound i v c h (length ρ) (omega arith) w) s

-- no more values are bound than there are frames
pub lets_few : {t frames : List ℕ} {R h l : ℕ} {ρ : List Cell} {K : List Hole} → Stack t R frames h ρ K l → length ρ ≤ h
lets_few bottom = omega arith
lets_few (on_one s e r o) = omega (arith, lets_few s)
lets_few (on_bound s e r w) = omega (arith, lets_few s)
lets_few (on_left s e r w) = omega (arith, lets_few s)
lets_few (on_right s e r o) = omega (arith, lets_few s)
lets_few (on_body s e r) = omega (arith, lets_few s)

-- a bound value by how many lets out it is
pub env_at : {bound : List ℕ} {ρ : List Cell} (k : ℕ) → Env bound ρ → k < length ρ
    → BoundWord bound (length ρ - k) (get_or ρ k (cell 0 Int)).value (packed (get_or ρ k (cell 0 Int)).kind)
env_at k no_lets l = absurd (omega arith)
env_at zero (one_let {ρ} v e s) l = let z : suc (length ρ) - 0 ≡ suc (length ρ) = omega arith in rw z e
env_at (suc k) (one_let {ρ} v e s) l =
    let z : suc (length ρ) - suc k ≡ length ρ - k = omega arith in
    rw z (env_at k v (omega arith))

pub env_small : {bound : List ℕ} {ρ : List Cell} (k : ℕ) → Env bound ρ → k < length ρ → Small (get_or ρ k (cell 0 Int)).kind
env_small k no_lets l = absurd (omega arith)
env_small zero (one_let v e s) l = s
env_small (suc k) (one_let v e s) l = env_small k v (omega arith)
