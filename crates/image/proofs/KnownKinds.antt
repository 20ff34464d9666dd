-- Of kinds whose numbers are known: their numbers fit the code, so that kinds are the same exactly if their codes are.
-- Assumes nothing.
use mathlib.Core.Path.{◌≡◌, refl, sym}
use mathlib.Core.Bool.{Bool, true, false, ◌||◌}
use mathlib.Core.List.{List, [], ◌∷◌, map}
use Prim.Native.Nat.{ℕ, zero, suc, ◌<◌, ◌≤◌}
use native.Mathlib.Omega.{arith}
use lib.Dec.{eqb}
use lib.ListN.{length, get_or}
use borrow.Author.Tests.{eq-eqb, ne_eqb}
use Rattle.choice.specs.Choice.{either}
use Rattle.cells.specs.Code.{packed, Small, small_int, small_word, small_struct, small_array}
use Rattle.cells.specs.Same.{same_kind}
use Rattle.cells.specs.declared.Mode.{Mode}
use Rattle.cells.specs.declared.Kind.{Kind}
use Rattle.cells.specs.declared.Kind.TheVariants.{Int, Word, Struct, Array}
use Rattle.cells.proofs.Codes.{packed_injective}
use Rattle.calculus.specs.Expr.{Target, pointer}
use Rattle.image.specs.Shape.{KnownTarget, word_known, struct_known, array_known}
use Rattle.image.specs.Tables.{is_among}
use Rattle.image.specs.Tabling.{among}
use Rattle.image.proofs.Each.{Each, each_more}
use Rattle.calculus.proofs.Same.{same_kind_true, same_kind_false, neither}

-- a kind over S structs and the word types below n
pub data KnownEntry (S n : ℕ) : Kind → Type 0 where
  known_int : KnownEntry S n Int
  known_word : {m : Mode} {i : ℕ} → i < n → KnownEntry S n (Word m i)
  known_struct : {m : Mode} {s : ℕ} → s < S → KnownEntry S n (Struct m s)
  known_array : {m : Mode} {k i : ℕ} → k < 65536 → i < n → KnownEntry S n (Array m k i)

pub known_pointer : {S n : ℕ} {ω : Target} (m : Mode) → KnownTarget S n ω → KnownEntry S n (pointer m ω)
known_pointer m (word_known h) = known_word h
known_pointer m (struct_known h) = known_struct h
known_pointer m (array_known l h) = known_array l h

lower : {a b c : ℕ} → a < b → b ≤ c → a < c
lower p q = omega arith

pub known_more : {S n n' : ℕ} {κ : Kind} → n ≤ n' → KnownEntry S n κ → KnownEntry S n' κ
known_more l known_int = known_int
known_more l (known_word h) = known_word (lower h l)
known_more l (known_struct h) = known_struct h
known_more l (known_array k h) = known_array k (lower h l)

pub entry_small : {S n : ℕ} {κ : Kind} → S ≤ 256 → n ≤ 256 → KnownEntry S n κ → Small κ
entry_small s l known_int = small_int
entry_small s l (known_word h) = small_word (lower h l)
entry_small s l (known_struct h) = small_struct (lower h s)
entry_small s l (known_array k h) = small_array k (lower h l)

-- kinds whose numbers fit are the same exactly if their codes are
pub code_test : {κ τ : Kind} → Small κ → Small τ → eqb (packed τ) (packed κ) ≡ same_kind κ τ
code_test {κ} {τ} s t = go (same_kind κ τ) refl
  where
    go : (b : Bool) → same_kind κ τ ≡ b → eqb (packed τ) (packed κ) ≡ b
    go true e = eq-eqb (packed τ) (packed κ) (rw (same_kind_true κ τ e))
    go false e = ne_eqb (packed τ) (packed κ) (λ p. same_kind_false κ τ e (packed_injective s t (sym p)))

either_is : (a b : Bool) → a || b ≡ either a b
either_is true b = refl
either_is false b = refl

-- looking for a code among codes is looking for its kind among the kinds
pub among_kinds : (κ : Kind) (τs : List Kind) → Small κ → Each Small τs → among (packed κ) (map packed τs) ≡ is_among κ τs
unfolding is_among
among_kinds κ [] s e = refl
among_kinds κ (τ ∷ τs) s (each_more q e) = rw (code_test s q, among_kinds κ τs s e) (either_is (same_kind κ τ) (is_among κ τs))

-- a kind that is not among others is none of them
pub not_among : (κ : Kind) (τs : List Kind) → is_among κ τs ≡ false → (i : ℕ) → i < length τs → κ ≡ get_or τs i Int → ⊥
unfolding is_among
not_among κ [] e i h = λ _. absurd (omega arith)
not_among κ (τ ∷ τs) e zero h = same_kind_false κ τ (neither (same_kind κ τ) (is_among κ τs) e).0
not_among κ (τ ∷ τs) e (suc i) h = not_among κ τs (neither (same_kind κ τ) (is_among κ τs) e).1 i (omega arith)
