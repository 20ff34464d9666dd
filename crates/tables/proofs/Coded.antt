-- What is read off a code is what is so of its kind: the tag by the kind's case, the mode, the number and the count.
use Prim.Native.Nat.{ℕ, zero, suc, ◌+◌, ◌-◌, ◌*◌, ◌/◌, ◌%◌, ◌<◌}
use mathlib.Core.Path.{◌≡◌, refl}
use native.Mathlib.Nat.{mod-eq_of_lt}
use native.Mathlib.Omega.{arith}
use lib.Dec.{eqb}
use Rattle.choice.specs.Choice.{choose, both}
use Rattle.cells.specs.Code.{mode_number, mode_of, packed, unpacked, number_in, count_in, Small, small_int, small_word, small_struct, small_array}
use Rattle.cells.specs.declared.Mode.{Mode}
use Rattle.cells.specs.declared.Mode.TheVariants.{Checked, Unchecked}
use Rattle.cells.specs.declared.Kind.{Kind}
use Rattle.cells.specs.declared.Kind.TheVariants.{Int, Word, Struct, Array}
use Rattle.cells.proofs.Codes.{round_trip}
use Rattle.calculus.specs.Setting.{checked_pointer, checked_empty}
use Rattle.calculus.specs.Steps.{fallen, checked_array}
use Rattle.tables.specs.Kinds.{code_tag, code_checked, code_checked_array, word_code, fallen_code}

-- ---- any code
-- the kind of a code, by its tag
pub data Coded (code : ℕ) : Kind → Type 0 where
  coded_int : code_tag code ≡ 0 → Coded code Int
  coded_word : code_tag code ≡ 1 → Coded code (Word (mode_of (code % 2)) (number_in code))
  coded_struct : code_tag code ≡ 2 → Coded code (Struct (mode_of (code % 2)) (number_in code))
  coded_array : code_tag code ≡ 3 → Coded code (Array (mode_of (code % 2)) (count_in code) (number_in code))

pub coded : (code : ℕ) → Coded code (unpacked code)
unfolding unpacked
coded code = go (code_tag code) refl
  where
    go : (t : ℕ) → code_tag code ≡ t → Coded code (unpacked code)
    go zero e = rw e (coded_int e)
    go (suc zero) e = rw e (coded_word e)
    go (suc (suc zero)) e = rw e (coded_struct e)
    go (suc (suc (suc zero))) e = rw e (coded_array e)
    go (suc (suc (suc (suc t)))) e = absurd (omega arith)

-- so it is of a kind whose numbers fit and its code
pub coded_kind : {κ : Kind} → Small κ → Coded (packed κ) κ
coded_kind {κ} s = rw (round_trip s) at (coded (packed κ))

-- ---- the code of a kind
abbrev pub kind_tag : Kind → ℕ
kind_tag Int = 0
kind_tag (Word m n) = 1
kind_tag (Struct m n) = 2
kind_tag (Array m k n) = 3

mode_below : (m : Mode) → mode_number m < 2
mode_below Checked = omega arith
mode_below Unchecked = omega arith

pub tag_kind : (κ : Kind) → code_tag (packed κ) ≡ kind_tag κ
unfolding packed
tag_kind Int = refl
tag_kind (Word m n) = omega (arith, mode_below m)
tag_kind (Struct m n) = omega (arith, mode_below m)
tag_kind (Array m k n) = omega (arith, mode_below m)

-- its rests by 2 and by 8
abbrev kind_mode : Kind → ℕ
kind_mode Int = 1
kind_mode (Word m n) = mode_number m
kind_mode (Struct m n) = mode_number m
kind_mode (Array m k n) = mode_number m

by_two : (κ : Kind) → packed κ % 2 ≡ kind_mode κ
unfolding packed
by_two Int = refl
by_two (Word m n) = omega (arith, mode_below m)
by_two (Struct m n) = omega (arith, mode_below m)
by_two (Array m k n) = omega (arith, mode_below m)

by_eight : (κ : Kind) → packed κ % 8 ≡ 2 * kind_tag κ + kind_mode κ
unfolding packed
by_eight Int = refl
by_eight (Word m n) = omega (arith, mode_below m)
by_eight (Struct m n) = omega (arith, mode_below m)
by_eight (Array m k n) = omega (arith, mode_below m)

-- the tests of a mode and of a checked array pointer
pub checked_kind : (κ : Kind) → code_checked (packed κ) ≡ checked_pointer κ
unfolding checked_pointer
checked_kind κ = rw (by_two κ) (go κ)
  where
    go : (κ : Kind) → eqb (kind_mode κ) 0 ≡ checked_pointer κ
    go Int = refl
    go (Word Checked n) = refl
    go (Word Unchecked n) = refl
    go (Struct Checked n) = refl
    go (Struct Unchecked n) = refl
    go (Array Checked k n) = refl
    go (Array Unchecked k n) = refl

pub array_kind : (κ : Kind) → code_checked_array (packed κ) ≡ checked_array κ
array_kind κ = rw (by_eight κ) (go κ)
  where
    go : (κ : Kind) → eqb (2 * kind_tag κ + kind_mode κ) 6 ≡ checked_array κ
    go Int = refl
    go (Word Checked n) = refl
    go (Word Unchecked n) = refl
    go (Struct Checked n) = refl
    go (Struct Unchecked n) = refl
    go (Array Checked k n) = refl
    go (Array Unchecked k n) = refl

-- ---- the code of a kind whose numbers fit
abbrev pub kind_number : Kind → ℕ
kind_number Int = 0
kind_number (Word m n) = n
kind_number (Struct m n) = n
kind_number (Array m k n) = n

abbrev pub kind_count : Kind → ℕ
kind_count Int = 0
kind_count (Word m n) = 0
kind_count (Struct m n) = 0
kind_count (Array m k n) = k

pub number_kind : {κ : Kind} → Small κ → number_in (packed κ) ≡ kind_number κ
unfolding packed
number_kind small_int = refl
number_kind (small_word {m} l) = omega (arith, mode_below m)
number_kind (small_struct {m} l) = omega (arith, mode_below m)
number_kind (small_array {m} k l) = omega (arith, mode_below m)

pub count_kind : {κ : Kind} → Small κ → count_in (packed κ) ≡ kind_count κ
unfolding packed
count_kind small_int = refl
count_kind (small_word {m} l) = omega (arith, mode_below m)
count_kind (small_struct {m} l) = omega (arith, mode_below m)
count_kind (small_array {m} k l) = omega (arith, mode_below m)

-- nothing stands above the count
pub count_whole : {κ : Kind} → Small κ → packed κ / 2048 ≡ kind_count κ
unfolding packed
count_whole small_int = refl
count_whole (small_word {m} l) = omega (arith, mode_below m)
count_whole (small_struct {m} l) = omega (arith, mode_below m)
count_whole (small_array {m} k l) = omega (arith, mode_below m)

-- the test of a checked pointer to an array of 0
pub empty_kind : {κ : Kind} → Small κ → both (code_checked_array (packed κ)) (eqb (count_in (packed κ)) 0) ≡ checked_empty κ
unfolding checked_empty
empty_kind {κ} s = rw (array_kind κ, count_kind s) (go κ)
  where
    go : (κ : Kind) → both (checked_array κ) (eqb (kind_count κ) 0) ≡ checked_empty κ
    go Int = refl
    go (Word m n) = refl
    go (Struct m n) = refl
    go (Array Checked k n) = refl
    go (Array Unchecked k n) = refl

-- ---- codes that are made
mode_back : (code : ℕ) → mode_number (mode_of (code % 2)) ≡ code % 2
mode_back code = go (code % 2) (omega arith)
  where
    go : (t : ℕ) → t < 2 → mode_number (mode_of t) ≡ t
    go zero l = refl
    go (suc zero) l = refl
    go (suc (suc t)) l = absurd (omega arith)

-- a pointer to a word, with the mode of the pointer that has the code
pub word_made : (code n : ℕ) → n < 256 → word_code code n ≡ packed (Word (mode_of (code % 2)) n)
unfolding word_code packed
word_made code n l = rw (mode_back code, mod-eq_of_lt l)

-- the kind after a sum, and its numbers fit
pub fallen_small : (κ : Kind) (k : ℕ) → Small κ → Small (fallen κ k)
fallen_small Int k s = s
fallen_small (Word m n) k s = s
fallen_small (Struct m n) k s = s
fallen_small (Array Checked c n) k (small_array l h) = small_array {k = c - k} (omega arith) h
fallen_small (Array Unchecked c n) k s = s

array_low : (c n : ℕ) → n < 256 → packed (Array Checked c n) % 2048 ≡ 6 + 8 * n
unfolding packed
array_low c n l = omega arith

pub fallen_kind : (κ : Kind) (k : ℕ) → Small κ → fallen_code (packed κ) k ≡ packed (fallen κ k)
unfolding fallen_code packed
fallen_kind κ k s = rw (array_kind κ, count_kind s) (go κ s)
  where
    go : (κ : Kind) → Small κ
        → choose (checked_array κ) (λ _. packed κ % 2048 + 2048 * (kind_count κ - k)) (λ _. packed κ) ≡ packed (fallen κ k)
    go Int s = refl
    go (Word m n) s = refl
    go (Struct m n) s = refl
    go (Array Checked c n) (small_array l h) = rw (array_low c n h) (omega arith)
    go (Array Unchecked c n) s = refl
