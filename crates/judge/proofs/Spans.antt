-- How many words a literal needs, by its code: none if it is base, and else those that its target covers.
use mathlib.Core.Path.{◌≡◌, refl, ◌∙◌}
use mathlib.Core.Bool.{Bool, true, false, not}
use mathlib.Core.List.{List}
use Prim.Native.Nat.{ℕ, zero, suc}
use lib.Dec.{eqb, eqb-suc-zero}
use Rattle.choice.specs.Choice.{choose, either}
use Rattle.cells.specs.Code.{unpacked, number_in, count_in}
use Rattle.cells.specs.declared.Mode.{Mode}
use Rattle.cells.specs.declared.Mode.TheVariants.{Checked, Unchecked}
use Rattle.cells.specs.declared.Kind.{Kind}
use Rattle.cells.specs.declared.Kind.TheVariants.{Array}
use Rattle.calculus.specs.Setting.{Setting, size, is_checked, checked_pointer, checked_empty}
use Rattle.calculus.specs.Literal.{is_base}
use Rattle.tables.specs.Kinds.{code_checked, size_at, HoldsSetting}
use Rattle.tables.proofs.Coded.{Coded, coded_int, coded_word, coded_struct, coded_array, coded}
use Rattle.judge.specs.Literals.{span}

-- the mode that a test tells
abbrev pub tested : Bool → Mode
tested t = choose t (λ _. Checked) (λ _. Unchecked)

pub tested_checked : (t : Bool) → is_checked (tested t) ≡ t
tested_checked true = refl
tested_checked false = refl

-- the value is 0 by the first test, the pointer is checked by the second
no_words : (z t : Bool) → choose {A = ℕ} z (λ _. 0) (λ _. choose t (λ _. 0) (λ _. 0)) ≡ 0
no_words true t = refl
no_words false true = refl
no_words false false = refl

words : (z t : Bool) (k : ℕ) → choose {A = ℕ} z (λ _. 0) (λ _. choose t (λ _. k) (λ _. 0)) ≡ choose (either (not (is_checked (tested t))) z) (λ _. 0) (λ _. k)
words true true k = refl
words true false k = refl
words false true k = refl
words false false k = refl

-- an array may be of 0
array_words : (z t : Bool) (k n : ℕ)
    → choose {A = ℕ} z (λ _. 0) (λ _. choose t (λ _. k) (λ _. 0))
    ≡ choose (either (not (is_checked (tested t))) (either (checked_empty (Array (tested t) k n)) z)) (λ _. 0) (λ _. k)
unfolding checked_empty
array_words true true zero n = refl
array_words true true (suc k) n = rw eqb-suc-zero
array_words true false k n = refl
array_words false true zero n = refl
array_words false true (suc k) n = rw eqb-suc-zero
array_words false false k n = refl

module _ {S : Setting} {structs types : List ℕ} (h : HoldsSetting S structs types) where
  span_coded : {code : ℕ} {κ : Kind} → Coded code κ → (v : ℕ) → span structs v code ≡ choose (is_base v κ) (λ _. 0) (λ _. size S κ)
  unfolding span size_at size checked_pointer checked_empty
  span_coded {code} (coded_int e) v = rw e (no_words (eqb v 0) (code_checked code))
  span_coded {code} (coded_word e) v = rw e (words (eqb v 0) (code_checked code) 1)
  span_coded {code} (coded_struct e) v = rw (e, h.count (number_in code)) (words (eqb v 0) (code_checked code) _)
  span_coded {code} (coded_array e) v = rw e (array_words (eqb v 0) (code_checked code) (count_in code) (number_in code))

  span_is : (v code : ℕ) → span structs v code ≡ choose (is_base v (unpacked code)) (λ _. 0) (λ _. size S (unpacked code))
  span_is v code = span_coded (coded code) v

  pub span_base : (v code : ℕ) → is_base v (unpacked code) ≡ true → span structs v code ≡ 0
  span_base v code b = span_is v code ∙ rw b

  pub span_size : (v code : ℕ) → is_base v (unpacked code) ≡ false → span structs v code ≡ size S (unpacked code)
  span_size v code b = span_is v code ∙ rw b
