-- What the tests of the definitions say: `same_mode`, `same_kind` and `same_cell` decide equality, `in_scope` decides membership, and
-- `all_from` tests each number. A test t is spoken of as `T t`: `holds` and `as_true` carry that to `t ≡ true` and back, `fails` and
-- `refuted` carry `T t → ⊥` to `t ≡ false` and back.
use Rattle.std.specs.Prelude.{Some, None}
use mathlib.Core.Path.{◌≡◌, refl}
use mathlib.Core.Logic.{◌⊎◌, inl, inr, ⊎_elim}
use mathlib.Core.Bool.{Bool, true, false}
use mathlib.Core.List.{List, [], ◌∷◌, Memᴰ}
use Prim.Native.Nat.{ℕ, zero, suc, ◌+◌, ◌<◌}
use native.Mathlib.Nat.{zero-add, add-zero, add-suc, suc-add}
use native.Mathlib.Omega.{arith}
use lib.Dec.{T, eqb, eqb→eq, eqb_refl}
use Rattle.choice.specs.Choice.{both, either, all_from}
use Rattle.cells.specs.Same.{same_mode, same_kind, same_cell}
use Rattle.cells.specs.declared.Mode.{Mode}
use Rattle.cells.specs.declared.Mode.TheVariants.{Checked, Unchecked}
use Rattle.cells.specs.declared.Kind.{Kind}
use Rattle.cells.specs.declared.Kind.TheVariants.{Int, Word, Struct, Array}
use Rattle.cells.specs.declared.Cell.{Cell}
use Rattle.calculus.specs.Literal.{in_scope}

-- A test that holds is true.
pub holds : (t : Bool) → T t → t ≡ true
holds true h = refl
holds false h = absurd h

-- A test that is true holds.
pub as_true : {t : Bool} → t ≡ true → T t
as_true e = rw e tt

-- A test that does not hold is false.
pub fails : (t : Bool) → (T t → ⊥) → t ≡ false
fails true h = absurd (h tt)
fails false h = refl

-- A test that is false does not hold.
pub refuted : {t : Bool} → t ≡ false → T t → ⊥
refuted e h = rw e at h

-- If both tests hold, each holds.
pub both_holds : (s t : Bool) → T (both s t) → T s × T t
both_holds true t h = (tt, h)
both_holds false t h = absurd h

-- And back.
pub holds_both : (s t : Bool) → T s → T t → T (both s t)
holds_both true t g h = h
holds_both false t g h = g

-- If one of two tests holds, the first does, or it is false and the second holds.
pub one_holds : (s t : Bool) → T (either s t) → T s ⊎ ((s ≡ false) × T t)
one_holds true t h = inl tt
one_holds false t h = inr (refl, h)

-- And back: the second need hold only where the first is false.
pub holds_one : (s t : Bool) → (s ≡ false → T t) → T (either s t)
holds_one true t h = tt
holds_one false t h = h refl

-- If neither of two tests holds, each is false.
pub neither : (s t : Bool) → either s t ≡ false → (s ≡ false) × (t ≡ false)
neither true t e = absurd (refuted e tt)
neither false t e = (refl, e)

-- Modes that pass as the same are equal.
pub same_mode_lem : (m m' : Mode) → T (same_mode m m') → m ≡ m'
unfolding same_mode
same_mode_lem Checked Checked h = refl
same_mode_lem Checked Unchecked h = absurd h
same_mode_lem Unchecked Checked h = absurd h
same_mode_lem Unchecked Unchecked h = refl

-- A mode passes as the same as itself.
pub mode_same : (m : Mode) → T (same_mode m m)
unfolding same_mode
mode_same Checked = tt
mode_same Unchecked = tt

-- the shared part of the pointers' kinds
mode_number_lem : (m m' : Mode) (n n' : ℕ) → T (both (same_mode m m') (eqb n n')) → (m ≡ m') × (n ≡ n')
mode_number_lem m m' n n' h = let (p, q) = both_holds (same_mode m m') (eqb n n') h in (same_mode_lem m m' p, eqb→eq n n' q)

-- Kinds that pass as the same are equal.
pub same_kind_lem : (κ κ' : Kind) → T (same_kind κ κ') → κ ≡ κ'
unfolding same_kind
same_kind_lem Int Int h = refl
same_kind_lem Int (Word m' n') h = absurd h
same_kind_lem Int (Struct m' n') h = absurd h
same_kind_lem Int (Array m' k' n') h = absurd h
same_kind_lem (Word m n) Int h = absurd h
same_kind_lem (Word m n) (Word m' n') h = cc ((mode_number_lem m m' n n' h).0, (mode_number_lem m m' n n' h).1)
same_kind_lem (Word m n) (Struct m' n') h = absurd h
same_kind_lem (Word m n) (Array m' k' n') h = absurd h
same_kind_lem (Struct m n) Int h = absurd h
same_kind_lem (Struct m n) (Word m' n') h = absurd h
same_kind_lem (Struct m n) (Struct m' n') h = cc ((mode_number_lem m m' n n' h).0, (mode_number_lem m m' n n' h).1)
same_kind_lem (Struct m n) (Array m' k' n') h = absurd h
same_kind_lem (Array m k n) Int h = absurd h
same_kind_lem (Array m k n) (Word m' n') h = absurd h
same_kind_lem (Array m k n) (Struct m' n') h = absurd h
same_kind_lem (Array m k n) (Array m' k' n') h =
    let (p, q) = both_holds (same_mode m m') (both (eqb k k') (eqb n n')) h in
    let (r, s) = both_holds (eqb k k') (eqb n n') q in cc (same_mode_lem m m' p, eqb→eq k k' r, eqb→eq n n' s)

-- A kind passes as the same as itself.
pub kind_same : (κ : Kind) → T (same_kind κ κ)
unfolding same_kind
kind_same Int = tt
kind_same (Word m n) = holds_both (same_mode m m) (eqb n n) (mode_same m) (eqb_refl n)
kind_same (Struct m n) = holds_both (same_mode m m) (eqb n n) (mode_same m) (eqb_refl n)
kind_same (Array m k n) =
    holds_both (same_mode m m) (both (eqb k k) (eqb n n)) (mode_same m) (holds_both (eqb k k) (eqb n n) (eqb_refl k) (eqb_refl n))

-- The same as equations: `same_kind` says true exactly of equal kinds, and false exactly of others.
pub same_kind_true : (κ κ' : Kind) → same_kind κ κ' ≡ true → κ ≡ κ'
same_kind_true κ κ' e = same_kind_lem κ κ' (as_true e)

pub same_kind_false : (κ κ' : Kind) → same_kind κ κ' ≡ false → κ ≡ κ' → ⊥
same_kind_false κ κ' e q = refuted e (rw q (kind_same κ'))

pub eq_same_kind : (κ κ' : Kind) → κ ≡ κ' → same_kind κ κ' ≡ true
eq_same_kind κ κ' q = holds (same_kind κ κ') (rw q (kind_same κ'))

pub ne_same_kind : (κ κ' : Kind) → (κ ≡ κ' → ⊥) → same_kind κ κ' ≡ false
ne_same_kind κ κ' n = fails (same_kind κ κ') (λ h. n (same_kind_lem κ κ' h))

-- Cells that pass as the same are equal.
pub same_cell_lem : (c d : Cell) → T (same_cell c d) → c ≡ d
same_cell_lem c d h =
    let (p, q) = both_holds (eqb c.value d.value) (same_kind c.kind d.kind) h in
    let e : c.value ≡ d.value = eqb→eq c.value d.value p in
    let f : c.kind ≡ d.kind = same_kind_lem c.kind d.kind q in
    λ i. record { value = e i; kind = f i }

-- And back.
pub cell_same : (c d : Cell) → c ≡ d → T (same_cell c d)
cell_same c d e =
    rw e (holds_both (eqb d.value d.value) (same_kind d.kind d.kind) (eqb_refl d.value) (kind_same d.kind))

-- An undefined word holds no cell.
pub not_held : {c : Cell} → None ≡ Some c → ⊥
not_held e = let z : ◌≡◌ {A = ℕ} 0 1 = cc in omega arith

-- What passes as in the scope is a member of it.
pub in_scope_lem : (c : Cell) (σ : List Cell) → T (in_scope c σ) → Memᴰ c σ
unfolding in_scope
in_scope_lem c [] h = absurd h
in_scope_lem c (d ∷ σ) h =
    ⊎_elim (λ t. Memᴰ.head (same_cell_lem c d t)) (λ t. Memᴰ.tail (in_scope_lem c σ t.1))
    (one_holds (same_cell c d) (in_scope c σ) h)

-- And back.
pub scope_in : (c : Cell) (σ : List Cell) → Memᴰ c σ → T (in_scope c σ)
unfolding in_scope
scope_in c σ (Memᴰ.head {x} {xs} e) = holds_one (same_cell c x) (in_scope c xs) (λ f. absurd (refuted f (cell_same c x e)))
scope_in c σ (Memᴰ.tail {x} {xs} m) = holds_one (same_cell c x) (in_scope c xs) (λ f. scope_in c xs m)

-- Where `all_from` holds, the test holds at each number.
pub each_from : (p : ℕ → Bool) (k a : ℕ) → T (all_from p k a) → (i : ℕ) → i < k → T (p (a + i))
unfolding all_from
each_from p zero a h i l = absurd (omega arith)
each_from p (suc k) a h zero l = rw add-zero (both_holds (p a) (all_from p k (suc a)) h).0
each_from p (suc k) a h (suc i) l =
    rw (add-suc, ← suc-add) (each_from p k (suc a) (both_holds (p a) (all_from p k (suc a)) h).1 i (omega arith))

-- And back.
pub from_each : (p : ℕ → Bool) (k a : ℕ) → ((i : ℕ) → i < k → T (p (a + i))) → T (all_from p k a)
unfolding all_from
from_each p zero a h = tt
from_each p (suc k) a h =
    holds_both (p a) (all_from p k (suc a)) (rw add-zero at (h 0 (omega arith)))
    (from_each p k (suc a) (λ i l. rw (suc-add, ← add-suc) (h (suc i) (omega arith))))

-- The same from 0 on.
pub each_below : (p : ℕ → Bool) (k : ℕ) → T (all_from p k 0) → (i : ℕ) → i < k → T (p i)
each_below p k h i l = rw zero-add at (each_from p k 0 h i l)

-- And back.
pub below_each : (p : ℕ → Bool) (k : ℕ) → ((i : ℕ) → i < k → T (p i)) → T (all_from p k 0)
below_each p k h = from_each p k 0 (λ i l. rw zero-add (h i l))
