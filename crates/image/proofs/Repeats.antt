-- Looking for a code among the first codes of a table: one after another, or by a mark that each of them has.
-- Assumes nothing.
use mathlib.Core.Path.{◌≡◌, refl, sym, ◌∙◌}
use mathlib.Core.Bool.{Bool, true, false, ◌||◌, or-true, or-false}
use mathlib.Core.List.{List, [], ◌∷◌}
use mathlib.Core.Logic.{⊎_elim}
use Prim.Native.Nat.{ℕ, zero, suc, ◌+◌, ◌%◌, ◌<◌}
use native.Mathlib.Nat.{eq-or-lt_of_le}
use native.Mathlib.Omega.{arith}
use lib.Dec.{eqb}
use lib.ListN.{length, get_or, set, take, replicate, length-set, length-replicate}
use lib.Seq.{take-nil, get_or-set_same, get_or-set_other}
use borrow.Author.Tests.{eq-eqb, ne_eqb, eqb-true, eqb-false}
use Rattle.std.specs.Bool.{◌==◌}
use Rattle.std.proofs.lemmas.List.Folds.{list_any_more}
use Rattle.choice.specs.Choice.{both}
use Rattle.image.specs.Tabling.{among}

apart : {b : Bool} → b ≡ true → b ≡ false → ⊥
apart p q = cc

-- one code more: it is the one that is looked for, or it changes nothing
module _ (t : List ℕ) (code i : ℕ) (h : i < length t) where
  more : among code (take (i + 1) t) ≡ (among code (take i t) || eqb (get_or t i 0) code)
  more = list_any_more (λ c. c == code) t i 0 h

  pub among_here : get_or t i 0 ≡ code → true ≡ among code (take (i + 1) t)
  among_here e = sym (more ∙ rw (eq-eqb (get_or t i 0) code e) (or-true (among code (take i t))))

  pub among_other : (get_or t i 0 ≡ code → ⊥) → among code (take i t) ≡ among code (take (i + 1) t)
  among_other n = sym (more ∙ rw (ne_eqb (get_or t i 0) code n) (or-false (among code (take i t))))

-- each of the first n codes of the table has its mark
pub record Marked (marks : List Bool) (t : List ℕ) (n : ℕ) : Type 0 where
  pub wide : length marks ≡ 1024
  pub mark : (j : ℕ) → j < n → j < length t → get_or marks (get_or t j 0 % 1021) false ≡ true

-- int alone, where the table has room for it
pub int_put : (t : List ℕ) → get_or (set t 0 1) 0 1 ≡ 1
int_put [] = refl
int_put (c ∷ t) = refl

int_there : (t : List ℕ) → 0 < length t → get_or t 0 1 ≡ 1 → get_or t 0 0 ≡ 1
int_there [] h e = absurd (omega arith)
int_there (c ∷ t) h e = e

abbrev cleared : List Bool
cleared = replicate 1024 false

pub int_marked : (t : List ℕ) → get_or t 0 1 ≡ 1 → Marked (set cleared 1 true) t 1
int_marked t e =
    record {
      wide = length-set cleared 1 true ∙ length-replicate {A = Bool} 1024 false;
      mark = λ j h l. at_none j (omega arith) l;
    }
  where
    at_none : (j : ℕ) → j ≡ 0 → j < length t → get_or (set cleared 1 true) (get_or t j 0 % 1021) false ≡ true
    at_none j z l = rw (z, int_there t (omega arith) e)

-- a mark stays where another is set
mark_kept : (marks : List Bool) (i k : ℕ) → i < length marks → get_or marks k false ≡ true → get_or (set marks i true) k false ≡ true
mark_kept marks i k h m = go (eqb k i) refl
  where
    go : (b : Bool) → eqb k i ≡ b → get_or (set marks i true) k false ≡ true
    go true e = rw (eqb-true k i e) (get_or-set_same marks i true false h)
    go false e = get_or-set_other marks i k true false (eqb-false k i e) ∙ m

-- one code more
pub marked_more : {marks : List Bool} {t : List ℕ} {n : ℕ} (code : ℕ) → Marked marks t n → Marked (set marks (code % 1021) true) (set t n code) (n + 1)
marked_more {marks} {t} {n} code m =
    record {
      wide = length-set marks (code % 1021) true ∙ m.wide;
      mark = λ j h l.
          ⊎_elim
          (λ e. last j e (omega (arith, length-set t n code)))
          (λ p. other j p (omega (arith, length-set t n code)))
          (eq-or-lt_of_le (omega arith));
    }
  where
    room : code % 1021 < length marks
    room = omega (arith, m.wide)

    last : (j : ℕ) → j ≡ n → j < length t → get_or (set marks (code % 1021) true) (get_or (set t n code) j 0 % 1021) false ≡ true
    last j e l = rw (e, get_or-set_same t n code 0 (omega arith)) (get_or-set_same marks (code % 1021) true false room)

    other : (j : ℕ) → j < n → j < length t → get_or (set marks (code % 1021) true) (get_or (set t n code) j 0 % 1021) false ≡ true
    other j p l = rw (get_or-set_other t n j code 0 (λ e. omega arith)) (mark_kept marks (code % 1021) (get_or t j 0 % 1021) room (m.mark j p l))

-- a code without its mark is not among them
unmarked : (marks : List Bool) (t : List ℕ) (code n : ℕ) → ((j : ℕ) → j < n → j < length t → get_or marks (get_or t j 0 % 1021) false ≡ true)
    → get_or marks (code % 1021) false ≡ false → among code (take n t) ≡ false
unmarked marks [] code n m z = rw take-nil
unmarked marks (c ∷ t) code zero m z = refl
unmarked marks (c ∷ t) code (suc n) m z =
    rw (ne_eqb c code (λ e. apart (rw e at (m 0 (omega arith) (omega arith))) z), unmarked marks t code n (λ j h l. m (suc j) (omega arith) (omega arith)) z)

-- so looking for the mark first changes nothing
pub mark_first : {marks : List Bool} {t : List ℕ} {n : ℕ} (code : ℕ) → Marked marks t n
    → both (get_or marks (code % 1021) false) (among code (take n t)) ≡ among code (take n t)
mark_first {marks} {t} {n} code m = go (get_or marks (code % 1021) false) refl
  where
    go : (b : Bool) → get_or marks (code % 1021) false ≡ b → both b (among code (take n t)) ≡ among code (take n t)
    go true e = refl
    go false e = sym (unmarked marks t code n m.mark e)
