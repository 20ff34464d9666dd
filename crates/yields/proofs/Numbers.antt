-- The numbers of a word in lent numbers: what is put is found again, and what stands below it is kept.
use Rattle.std.proofs.Common.{◌≡◌, ℕ, suc, ◌+◌, ◌*◌, ◌/◌, ◌<◌, List, length, get_or, set, ◌∙◌, arith}
use Rattle.std.proofs.Common.{length-set, get_or-set_other, get_or-set_same, lt-ltb}
use Rattle.cells.specs.Lent.{lent_number, put_word}

-- the numbers of a word
pub record TwoNumbers (t : List ℕ) (a value code : ℕ) : Type 0 where
  pub value_is : lent_number t a 0 ≡ value
  pub code_is : lent_number t a 1 ≡ code

module _ (t : List ℕ) (i value code : ℕ) where
  put_whole : i < length t / 2 → put_word t (suc i) value code ≡ set (set t (2 * i) value) (2 * i + 1) code
  unfolding put_word
  put_whole h = rw (lt-ltb i (length t / 2) h)

  number_put : (j k : ℕ) → i < length t / 2 → j < length t / 2
      → lent_number (put_word t (suc i) value code) (suc j) k ≡ get_or (set (set t (2 * i) value) (2 * i + 1) code) (2 * j + k) 0
  unfolding lent_number
  number_put j k h l = rw (put_whole h, length-set, length-set, lt-ltb j (length t / 2) l)

  pub numbers_put : i < length t / 2 → TwoNumbers (put_word t (suc i) value code) (suc i) value code
  numbers_put h =
      let e : 2 * i + 0 ≡ 2 * i = omega arith in
      record {
        value_is = number_put i 0 h h
            ∙ rw e
            (get_or-set_other (set t (2 * i) value) (2 * i + 1) (2 * i) code 0 (omega arith)
            ∙ get_or-set_same t (2 * i) value 0 (omega arith));
        code_is = number_put i 1 h h ∙ get_or-set_same (set t (2 * i) value) (2 * i + 1) code 0 (simp length-set (omega arith));
      }

  number_other : (j k : ℕ) → j < i → k < 2 → i < length t / 2 → lent_number (put_word t (suc i) value code) (suc j) k ≡ lent_number t (suc j) k
  unfolding lent_number
  number_other j k l m h =
      number_put j k h (omega arith)
      ∙ get_or-set_other (set t (2 * i) value) (2 * i + 1) (2 * j + k) code 0 (omega arith)
      ∙ get_or-set_other t (2 * i) (2 * j + k) value 0 (omega arith)
      ∙ rw (lt-ltb j (length t / 2) (omega arith))

  pub numbers_kept : {v c : ℕ} (j : ℕ) → j < i → i < length t / 2 → TwoNumbers t (suc j) v c → TwoNumbers (put_word t (suc i) value code) (suc j) v c
  numbers_kept j l h w =
      record {
        value_is = number_other j 0 l (omega arith) h ∙ w.value_is;
        code_is = number_other j 1 l (omega arith) h ∙ w.code_is;
      }
