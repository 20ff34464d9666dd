-- What the judge reads off a code by its rests: which mode it has, and the kind that it is the code of, by its tag.
use mathlib.Core.Path.{◌≡◌, refl}
use Prim.Native.Nat.{ℕ, zero, suc, ◌%◌}
use native.Mathlib.Omega.{arith}
use Rattle.cells.specs.Code.{mode_of, unpacked, number_in, count_in}
use Rattle.cells.specs.declared.Kind.TheVariants.{Int, Word, Struct, Array}
use Rattle.tables.specs.Kinds.{code_tag}

-- which mode it has
pub data Side (code : ℕ) : Type 0 where
  even : code % 2 ≡ 0 → Side code
  odd : code % 2 ≡ 1 → Side code

pub side : (code : ℕ) → Side code
side code = go (code % 2) refl
  where
    go : (t : ℕ) → code % 2 ≡ t → Side code
    go zero e = even e
    go (suc zero) e = odd e
    go (suc (suc t)) e = absurd (omega arith)

module _ (code : ℕ) where
  pub kind_int : code_tag code ≡ 0 → unpacked code ≡ Int
  unfolding unpacked
  kind_int e = rw e

  pub kind_word_lem : code_tag code ≡ 1 → unpacked code ≡ Word (mode_of (code % 2)) (number_in code)
  unfolding unpacked
  kind_word_lem e = rw e

  pub kind_struct : code_tag code ≡ 2 → unpacked code ≡ Struct (mode_of (code % 2)) (number_in code)
  unfolding unpacked
  kind_struct e = rw e

  pub kind_array : code_tag code ≡ 3 → unpacked code ≡ Array (mode_of (code % 2)) (count_in code) (number_in code)
  unfolding unpacked
  kind_array e = rw e
