-- Of heap cells that were read: their addresses rise and lie within the heap, their values fit, and their word types are known.
-- Assumes nothing.
use mathlib.Core.Path.{◌≡◌, refl, ◌∙◌, ap}
use mathlib.Core.List.{List, [], ◌∷◌}
use Prim.Native.Nat.{ℕ, zero, suc, ◌+◌, ◌*◌, ◌^◌, ◌<◌, ◌≤◌}
use native.Mathlib.Omega.{arith}
use lib.Dec.{eqb, ltb}
use lib.ListN.{length, get_or, take, drop}
use lib.Seq.{sets, length-sets}
use borrow.Author.Tests.{ltb-false, eqb-false}
use Rattle.cells.specs.Code.{packed, Small}
use Rattle.cells.specs.declared.Kind.{Kind}
use Rattle.cells.specs.declared.Kind.TheVariants.{Int}
use Rattle.calculus.specs.Setting.{cell}
use Rattle.calculus.specs.declared.Fault.TheVariants as fault
use Rattle.image.specs.Content.{Placed}
use Rattle.image.specs.Answers.{mapped}
use Rattle.image.specs.Tabled.{cell_rows}
use Rattle.image.specs.Parsing.{Parsed, got, refused, then_read, number, below}
use Rattle.image.specs.Cells.{read_address, read_cell, read_cells}
use Rattle.image.specs.declared.CellRow.{CellRow}
use Rattle.image.specs.Tabling.{read_row, cell_set, cells_into}
use Rattle.image.proofs.Gives.{Gives, gives, gives_none, gives_then, gives_test, gives_telling, given_by}
use Rattle.image.proofs.Each.{Each, each_none, each_more}
use Rattle.image.proofs.Fills.{Fills, fills, fills_telling, fills_as, fills_more}
use Rattle.image.proofs.Sets.{stored_there, stored_length, front_take, front_drop}
use Rattle.image.proofs.Numbers.{number_gives, below_gives}

-- an address behind `before`, read at `at`
pub record Address (image : List ℕ) (words before at address next : ℕ) : Type 0 where
  pub behind : at < next
  pub within : next ≤ length image
  pub rises : before < address
  pub inside : address ≤ words

-- a cell behind `before`, read at `at`
pub record CellOf (image : List ℕ) (words known before at : ℕ) (c : CellRow) (next : ℕ) : Type 0 where
  pub behind : at + 3 ≤ next
  pub within : next ≤ length image
  pub rises : before < c.address
  pub inside : c.address ≤ words
  pub fits : c.value < 2 ^ 32
  pub is_known : c.number < known

module _ (image : List ℕ) (words before at : ℕ) where
  pub address_gives : Gives (Address image words before at) (read_address image words before at)
  unfolding read_address
  address_gives =
      gives_then (number image at) _ (number_gives image at)
      (λ gap next s. gives_test (eqb gap 0) _ _ (λ _. gives_none)
      (λ n. gives_test (ltb words (before + gap)) _ _ (λ _. gives_none)
      (λ l. gives (record { behind = s.behind; within = s.within; rises = positive gap (eqb-false gap 0 n); inside = ltb-false words (before + gap) l }))))
    where
      positive : (gap : ℕ) → (gap ≡ 0 → ⊥) → before < before + gap
      positive gap h = omega arith

  pub row_gives : (known : ℕ) → Gives (CellOf image words known before at) (read_row image words known before at)
  unfolding read_row
  row_gives known =
      gives_then (read_address image words before at) _ address_gives
      (λ a at₁ s. gives_then (number image at₁) _ (number_gives image at₁)
      (λ v at₂ s₁. gives_then (below fault.Unknown known image at₂) _ (below_gives fault.Unknown known image at₂)
      (λ n at₃ s₂. gives (record { behind = omega arith; within = s₂.within; rises = s.rises; inside = s.inside; fits = s₁.fits; is_known = s₂.limited_by }))))

-- the cell of a row, over the word types
abbrev placed_of : List Kind → CellRow → Placed
placed_of types c = record { address = c.address; held = cell c.value (get_or types c.number Int) }

-- what is told in another way is told so behind each part
mapped_then : {A B C : Type 0} (g : B → C) (r : Parsed A) (go : A → ℕ → Parsed B)
    → mapped g (then_read r go) ≡ then_read r (λ a next. mapped g (go a next))
mapped_then g (got a next) go = refl
mapped_then g (refused f p) go = refl

-- the definition's cell is the row's
cell_row_lem : (image : List ℕ) (words : ℕ) (types : List Kind) (before at : ℕ)
    → read_cell image words types before at ≡ mapped (placed_of types) (read_row image words (length types) before at)
unfolding read_cell read_row
cell_row_lem image words types before at = simp mapped_then

-- cells whose addresses rise from `before` on and lie within W, whose values fit and whose kinds are word types of the table
pub data Rising (words : ℕ) (types : List Kind) : ℕ → List Placed → Type 0 where
  rising_none : {before : ℕ} → Rising words types before []
  rising : {before n : ℕ} {p : Placed} {ps : List Placed} → before < p.address → p.address ≤ words → p.held.value < 2 ^ 32
      → n < length types → p.held.kind ≡ get_or types n Int → Rising words types p.address ps → Rising words types before (p ∷ ps)

-- cells that were read behind `before`
pub record CellsRead (image : List ℕ) (words : ℕ) (types : List Kind) (left before at : ℕ) (ps : List Placed) (next : ℕ) : Type 0 where
  pub rises : Rising words types before ps
  pub long : length ps ≡ left
  pub onward : at + 3 * left ≤ next
  pub within : at ≤ length image → next ≤ length image

pub cells_give : (image : List ℕ) (words : ℕ) (types : List Kind) (left before at : ℕ)
    → Gives (CellsRead image words types left before at) (read_cells image words types left before at)
unfolding read_cells
cells_give image words types zero before at =
    gives {next = at} (record { rises = rising_none; long = refl; onward = omega arith; within = λ h. h })
cells_give image words types (suc left) before at =
    rw (cell_row_lem image words types before at)
    (gives_telling (placed_of types) (read_row image words (length types) before at) _ (row_gives image words before at (length types))
    (λ c next s. gives_then (read_cells image words types left c.address next) _ (cells_give image words types left c.address next)
    (λ ps end t. gives (read c ps next end s t))))
  where
    read : (c : CellRow) (ps : List Placed) (next end : ℕ) → CellOf image words (length types) before at c next
        → CellsRead image words types left c.address next ps end → CellsRead image words types (suc left) before at (placed_of types c ∷ ps) end
    read c ps next end s t =
        record {
          rises = rising s.rises s.inside s.fits s.is_known refl t.rises;
          long = ap suc t.long;
          onward = omega (arith, s.behind, t.onward);
          within = λ _. t.within s.within;
        }

-- addresses by number: the i-th rises above `before` and below each later one, and none is above W
abbrev pub address_of : List Placed → ℕ → ℕ
address_of ps i = (get_or ps i (record { address = 0; held = cell 0 Int })).address

pub lowest_cell : {words : ℕ} {types : List Kind} {before : ℕ} {ps : List Placed} → Rising words types before ps → (i : ℕ) → i < length ps
    → (before < address_of ps i) × (address_of ps i ≤ words)
lowest_cell rising_none i h = absurd (omega arith)
lowest_cell (rising a b f k e r) zero h = (a, b)
lowest_cell (rising a b f k e r) (suc i) h = let (p, q) = lowest_cell r i (omega arith) in (omega arith, q)

pub rises_on : {words : ℕ} {types : List Kind} {before : ℕ} {ps : List Placed} → Rising words types before ps → (i j : ℕ) → i < j → j < length ps
    → address_of ps i < address_of ps j
rises_on rising_none i j l h = absurd (omega arith)
rises_on (rising a b f k e r) zero (suc j) l h = (lowest_cell r j (omega arith)).0
rises_on (rising a b f k e r) (suc i) (suc j) l h = rises_on r i j (omega arith) (omega arith)
rises_on (rising a b f k e r) i zero l h = absurd (omega arith)

-- The cell table is filled as the definition reads: `cells_into` refuses where `read_cells` refuses, and leaves the rows of what it reads
-- where the table has room for them.
pub cells_fill : (image : List ℕ) (words : ℕ) (types : List Kind) (codes : List ℕ)
    → ((n : ℕ) → n < length types → get_or codes n 0 ≡ packed (get_or types n Int)) → (left before i at : ℕ) (t : List ℕ)
    → Fills
    (λ ps t'. 3 * (i + left) ≤ length t → t' ≡ sets t (3 * i) (cell_rows ps))
    (read_cells image words types left before at)
    (cells_into image words codes (length types) left before i at t)
unfolding read_cells cells_into cell_rows
cells_fill image words types codes coded zero before i at t = fills {a = []} {next = at} {t = t} (λ room. refl)
cells_fill image words types codes coded (suc left) before i at t =
    rw (cell_row_lem image words types before at)
    (fills_telling (placed_of types) (read_row image words (length types) before at) t _ _ (row_gives image words before at (length types))
    (λ c next s. fills_as (λ ps. placed_of types c ∷ ps)
    (cells_fill image words types codes coded left c.address (i + 1) next (cell_set t i c.address c.value (get_or codes c.number 0)))
    (λ ps _ t' _ e room. written c s.is_known t' (cell_rows ps) room e)))
  where
    written : (c : CellRow) → c.number < length types → (t' rows : List ℕ) → 3 * (i + suc left) ≤ length t
        → (3 * (i + 1 + left) ≤ length (cell_set t i c.address c.value (get_or codes c.number 0))
        → t' ≡ sets (cell_set t i c.address c.value (get_or codes c.number 0)) (3 * (i + 1)) rows)
        → t' ≡ sets t (3 * i) (c.address ∷ c.value ∷ packed (get_or types c.number Int) ∷ rows)
    written c k t' rows room e =
        let row : List ℕ = c.address ∷ c.value ∷ get_or codes c.number 0 ∷ [] in
        let three : 3 * (i + 1) ≡ suc (suc (suc (3 * i))) = omega arith in
        e (omega (arith, stored_length 3 t i row)) ∙ rw (stored_there 3 t i row (omega arith), coded c.number k, three)

-- the table holds the cells at its front, the rest as it was
pub record CellTable (k : ℕ) (t : List ℕ) (ps : List Placed) (t' : List ℕ) : Type 0 where
  pub rows : take (3 * k) t' ≡ cell_rows ps
  pub rest : drop (3 * k) t' ≡ drop (3 * k) t
  pub long : length t' ≡ length t

pub rows_length : (ps : List Placed) → length (cell_rows ps) ≡ 3 * length ps
unfolding cell_rows
rows_length [] = omega arith
rows_length (p ∷ ps) = omega (arith, rows_length ps)

pub cells_held : (image : List ℕ) (words : ℕ) (types : List Kind) (codes : List ℕ)
    → ((n : ℕ) → n < length types → get_or codes n 0 ≡ packed (get_or types n Int)) → (k at : ℕ) (t : List ℕ)
    → Fills (λ ps t'. 3 * k ≤ length t → CellTable k t ps t') (read_cells image words types k 0 at) (cells_into image words codes (length types) k 0 0 at t)
cells_held image words types codes coded k at t =
    fills_more (cells_fill image words types codes coded k 0 0 at t)
    (λ ps next t' g e room. table ps t' (given_by (cells_give image words types k 0 at) g).long (e (omega arith)) room)
  where
    table : (ps : List Placed) (t' : List ℕ) → length ps ≡ k → t' ≡ sets t 0 (cell_rows ps) → 3 * k ≤ length t → CellTable k t ps t'
    table ps t' l e room =
        let n : 3 * k ≡ length (cell_rows ps) = omega (arith, rows_length ps) in
        record {
          rows = rw (e, n) (front_take t (cell_rows ps) (omega arith));
          rest = rw (e, n) (front_drop t (cell_rows ps) (omega arith));
          long = rw e (length-sets t 0 (cell_rows ps));
        }

-- the numbers of the cells' kinds fit the packed code where those of the word types do
pub cells_small : {words : ℕ} {types : List Kind} {before : ℕ} {ps : List Placed} → ((n : ℕ) → n < length types → Small (get_or types n Int))
    → Rising words types before ps → Each (λ p. Small p.held.kind) ps
cells_small small rising_none = each_none
cells_small small (rising {n = n} {p = p} a b f k e r) = each_more {a = p} (rw e (small n k)) (cells_small small r)
