-- Of the code of a kind: a kind whose numbers fit comes back from its code, a code is never 0, and every code's kind has numbers that
-- fit.
use Rattle.std.proofs.Common.{◌≡◌, ℕ, ◌+◌, ◌*◌, ◌/◌, ◌%◌, ◌<◌, Bool, true, false, eqb, sym, refl, ap, ◌∙◌, arith}
use Rattle.choice.specs.Choice.{choose}
use Rattle.cells.specs.declared.Mode.{Mode}
use Rattle.cells.specs.declared.Mode.TheVariants.{Checked, Unchecked}
use Rattle.cells.specs.declared.Kind.{Kind}
use Rattle.cells.specs.declared.Kind.TheVariants.{Int, Word, Struct, Array}
use Rattle.cells.specs.Code.{mode_number, mode_of, packed, unpacked, Small, small_int, small_word, small_struct, small_array}

mode_below : (m : Mode) → mode_number m < 2
mode_below Checked = omega arith
mode_below Unchecked = omega arith

mode_back : (m : Mode) → mode_of (mode_number m) ≡ m
mode_back Checked = refl
mode_back Unchecked = refl

-- the four fields of a code, as `unpacked` reads them
record Fields (code tag mode count number : ℕ) : Type 0 where
  tagged : code % 8 / 2 ≡ tag
  moded : code % 2 ≡ mode
  counted : code / 2048 % 65536 ≡ count
  numbered : code / 8 % 256 ≡ number

fields : (code tag mode count number : ℕ) → code ≡ 2 * tag + mode + 8 * number + 2048 * count
    → tag < 4 → mode < 2 → count < 65536 → number < 256 → Fields code tag mode count number
fields code tag mode count number e t m k n = omega arith

-- the kind that they make, by the tests of the tag
abbrev made : (word struct array : Bool) → Mode → (count number : ℕ) → Kind
made word struct array m k n =
    choose word (λ _. Word m n) λ _. choose struct (λ _. Struct m n) λ _. choose array (λ _. Array m k n) (λ _. Int)

made_small : (word struct array : Bool) (m : Mode) {k n : ℕ} → k < 65536 → n < 256 → Small (made word struct array m k n)
made_small true struct array m {k} {n} l h = small_word {n = n} (omega arith)
made_small false true array m {k} {n} l h = small_struct {n = n} (omega arith)
made_small false false true m {k} {n} l h = small_array {k = k} {n = n} (omega arith) (omega arith)
made_small false false false m l h = small_int

reads : (code tag : ℕ) (m : Mode) (k n : ℕ)
    → (code ≡ 2 * tag + mode_number m + 8 * n + 2048 * k) × (tag < 4) × (k < 65536) × (n < 256)
    → unpacked code ≡ made (eqb tag 1) (eqb tag 2) (eqb tag 3) m k n
unfolding unpacked
reads code tag m k n h =
    let f = fields code tag (mode_number m) k n h.0 h.1 (mode_below m) h.2 h.3 in
    rw (f.tagged, f.moded, f.counted, f.numbered, mode_back m)

-- a kind whose numbers fit comes back from its code
pub round_trip : {κ : Kind} → Small κ → unpacked (packed κ) ≡ κ
unfolding packed
round_trip small_int = reads _ 0 Unchecked 0 0 (omega arith)
round_trip (small_word {m} {n} h) = reads _ 1 m 0 n (omega arith)
round_trip (small_struct {m} {n} h) = reads _ 2 m 0 n (omega arith)
round_trip (small_array {m} {k} {n} l h) = reads _ 3 m k n (omega arith)

-- the code of a kind is never 0
pub packed_not_zero : (κ : Kind) → packed κ ≡ 0 → ⊥
unfolding packed
packed_not_zero Int e = omega arith
packed_not_zero (Word m n) e = omega arith
packed_not_zero (Struct m n) e = omega arith
packed_not_zero (Array m k n) e = omega arith

-- kinds whose numbers fit and that have one code are one kind
pub packed_injective : {κ κ' : Kind} → Small κ → Small κ' → packed κ ≡ packed κ' → κ ≡ κ'
packed_injective s s' e = sym (round_trip s) ∙ ap unpacked e ∙ round_trip s'

-- the numbers of every code's kind fit
pub unpacked_small : (code : ℕ) → Small (unpacked code)
unfolding unpacked
unpacked_small code = made_small (eqb (code % 8 / 2) 1) (eqb (code % 8 / 2) 2) (eqb (code % 8 / 2) 3) _ (omega arith) (omega arith)
