-- The view of a lent heap: what reads, stores, clearings and searches of the numbers are on the heap that they hold.
use Rattle.std.proofs.Common.{◌≡◌, ℕ, zero, suc, ◌+◌, ◌*◌, ◌/◌, ◌<◌, ◌≤◌, min, ltb, List, [], ◌∷◌, ◌++◌, length, get_or, drop, set, replicate, refl, ap, arith, length-append, length-drop, length-set, drop_at, lt-ltb, ne_eqb, Option, Some, None}
use lib.ListN.{length-replicate}
use Rattle.choice.specs.Choice.{choose_case}
use Rattle.cells.specs.Code.{packed, as_word}
use Rattle.cells.specs.Heap.{Heap, look, update, undefined, SmallWord, small_held, SmallHeap}
use Rattle.cells.specs.Free.{lowest_in}
use Rattle.cells.specs.Lent.{word_at, lent_number, put_word, stored, cleared, lowest_run, value_in, code_in, numbers_of, lent}
use Rattle.cells.specs.declared.Cell.{Cell}
use Rattle.cells.proofs.Codes.{round_trip, packed_not_zero}
use Rattle.cells.proofs.Free.{lowest_same}

twice : (i : ℕ) → 2 * suc i ≡ suc (suc (2 * i))
twice i = omega arith

twice_more : (i : ℕ) → 2 * suc i + 1 ≡ suc (suc (2 * i + 1))
twice_more i = omega arith

-- ---- a heap's words as numbers
length_numbers : (H : Heap) → length (numbers_of H) ≡ 2 * length H
unfolding numbers_of
length_numbers [] = refl
length_numbers (w ∷ H) = rw (length_numbers H) (omega arith)

value_at : (H : Heap) (rest : List ℕ) (i : ℕ) → i < length H → get_or (numbers_of H ++ rest) (2 * i) 0 ≡ value_in (get_or H i None)
unfolding numbers_of
value_at [] rest i l = absurd (omega arith)
value_at (w ∷ H) rest zero l = refl
value_at (w ∷ H) rest (suc i) l = rw twice (value_at H rest i (omega arith))

code_at : (H : Heap) (rest : List ℕ) (i : ℕ) → i < length H → get_or (numbers_of H ++ rest) (2 * i + 1) 0 ≡ code_in (get_or H i None)
unfolding numbers_of
code_at [] rest i l = absurd (omega arith)
code_at (w ∷ H) rest zero l = refl
code_at (w ∷ H) rest (suc i) l = rw twice_more (code_at H rest i (omega arith))

set_numbers : (H : Heap) (rest : List ℕ) (i : ℕ) (c : Cell) → i < length H
    → set (set (numbers_of H ++ rest) (2 * i) c.value) (2 * i + 1) (packed c.kind) ≡ numbers_of (set H i (Some c)) ++ rest
unfolding numbers_of
set_numbers [] rest i c l = absurd (omega arith)
set_numbers (w ∷ H) rest zero c l = refl
set_numbers (w ∷ H) rest (suc i) c l =
    rw (twice_more, twice) (ap (λ (t : List ℕ). value_in w ∷ code_in w ∷ t) (set_numbers H rest i c (omega arith)))

no_numbers : (n : ℕ) → replicate (2 * n) 0 ≡ numbers_of (replicate n None)
unfolding numbers_of
no_numbers zero = refl
no_numbers (suc n) = rw (twice, no_numbers n)

back : (w : Option Cell) → SmallWord w → as_word (value_in w) (code_in w) ≡ w
back None s = refl
back (Some c) (small_held s) = rw (ne_eqb (packed c.kind) 0 (packed_not_zero c.kind), round_trip s)

-- ---- lent numbers that hold a heap
-- the word at an address is the heap's
pub word_lent : (H : Heap) (ws : List ℕ) (a : ℕ) → SmallHeap H → a ≤ length H → word_at (lent H ws) a ≡ look H a
unfolding word_at look
word_lent H ws zero s l = refl
word_lent H ws (suc i) s l =
    let rest : List ℕ = drop (2 * length H) ws in
    rw (value_at H rest i l, code_at H rest i l) (back (get_or H i None) (s.each (suc i)))

-- the numbers are as many as before
pub length_lent : (H : Heap) (ws : List ℕ) → 2 * length H ≤ length ws → length (lent H ws) ≡ length ws
length_lent H ws l = simp (length-append, length_numbers, length-drop) (omega arith)

-- so are its two numbers
pub value_lent : (H : Heap) (ws : List ℕ) (a : ℕ) → a ≤ length H → 2 * length H ≤ length ws → lent_number (lent H ws) a 0 ≡ value_in (look H a)
unfolding lent_number look
value_lent H ws zero l r = refl
value_lent H ws (suc i) l r =
    let long : length (lent H ws) ≡ length ws = length_lent H ws r in
    let e : 2 * i + 0 ≡ 2 * i = omega arith in
    rw (lt-ltb i (length (lent H ws) / 2) (omega arith), e) (value_at H (drop (2 * length H) ws) i l)

pub code_lent : (H : Heap) (ws : List ℕ) (a : ℕ) → a ≤ length H → 2 * length H ≤ length ws → lent_number (lent H ws) a 1 ≡ code_in (look H a)
unfolding lent_number look
code_lent H ws zero l r = refl
code_lent H ws (suc i) l r =
    let long : length (lent H ws) ≡ length ws = length_lent H ws r in
    rw (lt-ltb i (length (lent H ws) / 2) (omega arith)) (code_at H (drop (2 * length H) ws) i l)

-- a heap of the same length takes the place of the one before
pub lent_again : (H H' : Heap) (ws : List ℕ) → length H ≡ length H' → lent H (lent H' ws) ≡ lent H ws
lent_again H H' ws e = rw (e, drop_at (numbers_of H') (drop (2 * length H') ws) (2 * length H') (length_numbers H'))

-- a store is an update of the heap
pub stored_lent : (H : Heap) (ws : List ℕ) (a : ℕ) (c : Cell) → a ≤ length H → 2 * length H ≤ length ws
    → stored (lent H ws) a c ≡ lent (update H a c) ws
unfolding stored put_word update
stored_lent H ws zero c l r = refl
stored_lent H ws (suc i) c l r =
    let long : length (lent H ws) ≡ length ws = length_lent H ws r in
    rw (lt-ltb i (length (lent H ws) / 2) (omega arith), length-set) (set_numbers H (drop (2 * length H) ws) i c l)

-- a store keeps the length
pub length_put : (ws : List ℕ) (a value code : ℕ) → length (put_word ws a value code) ≡ length ws
unfolding put_word
length_put ws zero value code = refl
length_put ws (suc i) value code =
    choose_case
    (λ (t : List ℕ). length t ≡ length ws)
    (ltb i (length ws / 2))
    (λ _. set (set ws (2 * i) value) (2 * i + 1) code)
    (λ _. ws)
    (simp length-set)
    refl

pub length_stored : (ws : List ℕ) (a : ℕ) (c : Cell) → length (stored ws a c) ≡ length ws
unfolding stored
length_stored ws a c = length_put ws a c.value (packed c.kind)

-- to clear the first words is to lend a heap of undefined words
pub cleared_lent : (ws : List ℕ) (n : ℕ) → 2 * n ≤ length ws → cleared ws n ≡ lent (replicate n None) ws
cleared_lent ws n l = let e : min n (length ws / 2) ≡ n = omega arith in rw (e, length-replicate, no_numbers n)

-- the lowest run in the numbers is the heap's
pub lowest_lent : (H : Heap) (ws : List ℕ) (k low high : ℕ) → SmallHeap H → 2 * length H ≤ length ws → high ≤ length H
    → lowest_run (lent H ws) k low high ≡ lowest_in (λ a. undefined (look H a)) k low high
lowest_lent H ws k low high s r l =
    let e : min high (length (lent H ws) / 2) ≡ high = omega (arith, length_lent H ws r) in
    rw e (lowest_same _ _ low high (λ b _ m. ap undefined (word_lent H ws b s (omega arith))) k)
