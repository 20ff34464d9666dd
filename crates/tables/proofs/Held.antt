-- What is read off the structs and the word types of a setting that the lent numbers hold: how many words a target covers, which kind each
-- of them has, and the kind of a word type.
use Prim.Native.Nat.{ℕ, zero, suc, ◌%◌, ◌<◌}
use mathlib.Core.Path.{◌≡◌, refl, sym, ◌∙◌, ap}
use mathlib.Core.List.{List, [], ◌∷◌}
use native.Mathlib.Omega.{arith}
use lib.ListN.{length, get_or}
use Rattle.cells.specs.Code.{mode_of, packed, unpacked, number_in, Small, small_int, small_word}
use Rattle.cells.specs.declared.Mode.{Mode}
use Rattle.cells.specs.declared.Kind.{Kind}
use Rattle.cells.specs.declared.Kind.TheVariants.{Int, Word, Struct, Array}
use Rattle.cells.proofs.Codes.{round_trip}
use Rattle.calculus.specs.Setting.{Setting, kind_of, fields_of, size, word_kind}
use Rattle.tables.specs.Kinds.{type_code_at, field_type_at, size_at, word_type_at, word_code, HoldsSetting}
use Rattle.tables.specs.Rows.{type_kind}
use Rattle.tables.proofs.Coded.{Coded, coded_int, coded_word, coded_struct, coded_array, coded, coded_kind, word_made}

-- what is read below the end is read whatever stands for the numbers past it
pub get_d_below : (l : List ℕ) (n d d' : ℕ) → n < length l → get_or l n d ≡ get_or l n d'
get_d_below [] n d d' l = absurd (omega arith)
get_d_below (x ∷ l) zero d d' h = refl
get_d_below (x ∷ l) (suc n) d d' h = get_d_below l n d d' (omega arith)

module _ {S : Setting} {structs types : List ℕ} (h : HoldsSetting S structs types) where
  -- ---- the words that a target covers
  size_coded : {code : ℕ} {κ : Kind} → Coded code κ → size_at structs code ≡ size S κ
  unfolding size_at size
  size_coded (coded_int e) = rw e
  size_coded (coded_word e) = rw e
  size_coded {code} (coded_struct e) = rw e (h.count (number_in code))
  size_coded (coded_array e) = rw e

  pub size_code : (code : ℕ) → size_at structs code ≡ size S (unpacked code)
  size_code code = size_coded (coded code)

  pub size_kind : {κ : Kind} → Small κ → size_at structs (packed κ) ≡ size S κ
  size_kind s = size_coded (coded_kind s)

  -- ---- the kind of each of them
  word_coded : {code : ℕ} {κ : Kind} → Coded code κ → (i : ℕ) → i < size S κ
      → type_code_at types (word_type_at structs code i) ≡ packed (word_kind S κ i)
  unfolding word_type_at size word_kind
  word_coded (coded_int e) i l = absurd (omega arith)
  word_coded {code} (coded_word e) i l = rw e (h.codes (number_in code))
  word_coded {code} (coded_struct e) i l =
      rw (e, h.fields (number_in code) i l) (h.codes (get_or (fields_of S (number_in code)) i 0))
  word_coded {code} (coded_array e) i l = rw e (h.codes (number_in code))

  pub word_code_lem : (code i : ℕ) → i < size S (unpacked code) → type_code_at types (word_type_at structs code i) ≡ packed (word_kind S (unpacked code) i)
  word_code_lem code i l = word_coded (coded code) i l

  pub word_kind_lem : {κ : Kind} (i : ℕ) → Small κ → i < size S κ → type_code_at types (word_type_at structs (packed κ) i) ≡ packed (word_kind S κ i)
  word_kind_lem i s l = word_coded (coded_kind s) i l

  -- its numbers fit
  pub words_small : (κ : Kind) (i : ℕ) → Small (word_kind S κ i)
  unfolding word_kind
  words_small Int i = small_int
  words_small (Word m n) i = h.small n
  words_small (Struct m s) i = h.small (get_or (fields_of S s) i 0)
  words_small (Array m k n) i = h.small n

  -- ---- a pointer to a field, with the mode of the pointer that has the code
  pub field_code : (code s f : ℕ) → f < length (fields_of S s)
      → word_code code (field_type_at structs s f) ≡ packed (Word (mode_of (code % 2)) (get_or (fields_of S s) f 0))
  field_code code s f l = rw (h.fields s f l) (word_made code (get_or (fields_of S s) f 0) (h.bytes s f))

  pub field_small : (m : Mode) (s f : ℕ) → Small (Word m (get_or (fields_of S s) f 0))
  field_small m s f = small_word (h.bytes s f)

  -- ---- word types
  pub type_kind_lem : (n : ℕ) → type_kind types n ≡ kind_of S n
  type_kind_lem n = ap unpacked (h.codes n) ∙ round_trip (h.small n)

  -- the code of a word type is its kind's
  pub type_exact : (n : ℕ) → packed (type_kind types n) ≡ type_code_at types n
  type_exact n = ap packed (type_kind_lem n) ∙ sym (h.codes n)
