-- What is read off the code of a kind whose numbers fit: its parts, the code after a sum, and how many words the target covers.
use Rattle.std.proofs.Common.{◌≡◌, ℕ, ◌+◌, ◌-◌, ◌*◌, ◌/◌, ◌%◌, ◌<◌, Bool, true, false, refl, List, arith}
use Rattle.cells.specs.Code.{mode_number, packed, Small, small_int, small_word, small_struct, small_array}
use Rattle.cells.specs.declared.Mode.{Mode}
use Rattle.cells.specs.declared.Mode.TheVariants.{Checked, Unchecked}
use Rattle.cells.specs.declared.Kind.{Kind}
use Rattle.cells.specs.declared.Kind.TheVariants.{Int, Word, Struct, Array}
use Rattle.calculus.specs.Setting.{Setting, size}
use Rattle.calculus.specs.Steps.{fallen, checked_array}
use Rattle.tables.specs.Kinds.{HoldsSetting}
use Rattle.tables.proofs.Coded.{kind_tag, kind_count, kind_number}
use Rattle.machine.specs.Malloc.{size_in}

-- ---- the parts of a code
record Parts (code tag mode count number : ℕ) : Type 0 where
  tagged : code % 8 / 2 ≡ tag
  moded : code % 2 ≡ mode
  eight : code % 8 ≡ 2 * tag + mode
  counted : code / 2048 ≡ count
  numbered : code / 8 % 256 ≡ number
  low : code % 2048 ≡ 2 * tag + mode + 8 * number

parts : (code tag mode count number : ℕ) → code ≡ 2 * tag + mode + 8 * number + 2048 * count → tag < 4 → mode < 2 → number < 256
    → Parts code tag mode count number
parts code tag mode count number e t m n = omega arith

mode_below : (m : Mode) → mode_number m < 2
mode_below Checked = omega arith
mode_below Unchecked = omega arith

-- the mode of a kind's code; its tag, its count and its number are tables'
mode_of : Kind → ℕ
mode_of Int = 1
mode_of (Word m n) = mode_number m
mode_of (Struct m n) = mode_number m
mode_of (Array m k n) = mode_number m

parts_of_lem : {κ : Kind} → Small κ → Parts (packed κ) (kind_tag κ) (mode_of κ) (kind_count κ) (kind_number κ)
unfolding packed mode_of
parts_of_lem small_int = parts 1 0 1 0 0 (omega arith) (omega arith) (omega arith) (omega arith)
parts_of_lem (small_word {m} {n} h) = parts _ 1 (mode_number m) 0 n (omega arith) (omega arith) (mode_below m) h
parts_of_lem (small_struct {m} {n} h) = parts _ 2 (mode_number m) 0 n (omega arith) (omega arith) (mode_below m) h
parts_of_lem (small_array {m} {k} {n} l h) = parts _ 3 (mode_number m) k n (omega arith) (omega arith) (mode_below m) h

-- ---- the code after a sum
clash : {b : Bool} → b ≡ true → b ≡ false → ⊥
clash p q = let z : ◌≡◌ {A = ℕ} 0 1 = cc in omega arith

fallen_code_lem : (κ : Kind) (k : ℕ) → Small κ → checked_array κ ≡ true → packed κ % 2048 + 2048 * (packed κ / 2048 - k) ≡ packed (fallen κ k)
unfolding packed mode_of
fallen_code_lem Int k s e = absurd (clash e refl)
fallen_code_lem (Word m n) k s e = absurd (clash e refl)
fallen_code_lem (Struct m n) k s e = absurd (clash e refl)
fallen_code_lem (Array Checked c n) k s e = let p = parts_of_lem s in rw (p.low, p.counted) (omega arith)
fallen_code_lem (Array Unchecked c n) k s e = absurd (clash e refl)

-- ---- how many words a target covers, an array's by its whole count
pub size_same : {S : Setting} {structs types : List ℕ} → HoldsSetting S structs types → (κ : Kind) → Small κ
    → size_in structs (packed κ) ≡ size S κ
unfolding size_in size
size_same h Int s = rw (parts_of_lem s).tagged
size_same h (Word m n) s = rw (parts_of_lem s).tagged
size_same h (Struct m n) s = let p = parts_of_lem s in rw (p.tagged, p.numbered) (h.count n)
size_same h (Array m k n) s = let p = parts_of_lem s in rw (p.tagged, p.counted)
