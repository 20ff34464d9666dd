-- Values in lent numbers as words in a heap: those below the top of the stack, and the bound ones. What is put above keeps all below.
use Rattle.std.proofs.Common.{◌≡◌, ℕ, zero, suc, ◌-◌, ◌/◌, ◌<◌, ◌≤◌, List, [], ◌∷◌, length, get_or, arith}
use Rattle.cells.specs.Code.{packed, Small}
use Rattle.cells.specs.Lent.{put_word}
use Rattle.cells.specs.declared.Cell.{Cell}
use Rattle.yields.proofs.Numbers.{TwoNumbers, numbers_put, numbers_kept}
use Rattle.stepper.specs.Moves.{nought}

-- the values, the last one first: the first stands at address 1
pub data Listed (t : List ℕ) : List Cell → Type 0 where
  listed_none : Listed t []
  listed_more : {ρ : List Cell} {c : Cell} → Listed t ρ → TwoNumbers t (suc (length ρ)) c.value (packed c.kind) → Small c.kind
      → Listed t (c ∷ ρ)

pub listed_kept : {t : List ℕ} {ρ : List Cell} (i v c : ℕ) → length ρ ≤ i → i < length t / 2 → Listed t ρ → Listed (put_word t (suc i) v c) ρ
listed_kept i v c m h listed_none = listed_none
listed_kept {t} i v c m h (listed_more {ρ} e w s) =
    listed_more (listed_kept i v c (omega arith) h e) (numbers_kept t i v c (length ρ) (omega arith) h w) s

-- one more value
pub listed_put : {t : List ℕ} {ρ : List Cell} (c : Cell) → length ρ < length t / 2 → Small c.kind → Listed t ρ
    → Listed (put_word t (suc (length ρ)) c.value (packed c.kind)) (c ∷ ρ)
listed_put {t} {ρ} c h s e =
    listed_more (listed_kept (length ρ) c.value (packed c.kind) (omega arith) h e)
    (numbers_put t (length ρ) c.value (packed c.kind) h) s

-- a value by how many stand behind it
pub listed_at : {t : List ℕ} {ρ : List Cell} (k : ℕ) → Listed t ρ → k < length ρ
    → TwoNumbers t (length ρ - k) (get_or ρ k nought).value (packed (get_or ρ k nought).kind)
listed_at k listed_none l = absurd (omega arith)
listed_at zero (listed_more {ρ} v e s) l = let z : suc (length ρ) - 0 ≡ suc (length ρ) = omega arith in rw z e
listed_at (suc k) (listed_more {ρ} v e s) l =
    let z : suc (length ρ) - suc k ≡ length ρ - k = omega arith in
    rw z (listed_at k v (omega arith))

pub listed_small : {t : List ℕ} {ρ : List Cell} (k : ℕ) → Listed t ρ → k < length ρ → Small (get_or ρ k nought).kind
listed_small k listed_none l = absurd (omega arith)
listed_small zero (listed_more v e s) l = s
listed_small (suc k) (listed_more v e s) l = listed_small k v (omega arith)
