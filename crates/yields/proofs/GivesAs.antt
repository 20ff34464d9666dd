-- What nodes give on codes is what the definition's redexes give on the kinds that have them.
use Rattle.std.proofs.Common.{◌≡◌, ℕ, zero, suc, ◌+◌, ◌*◌, ◌%◌, ◌^◌, ◌<◌, ◌≤◌, Bool, true, false, eqb, ltb, leb, List, length, get_or, refl, ap, ◌∙◌}
use Rattle.std.proofs.Common.{arith, ltb-false, ltb-true, le-ltb, lt-ltb, le-leb, Option, Some, None}
use native.Mathlib.Decide.{dec_le, dec_lt}
use lib.ListN.{get_or-eq_default}
use borrow.Author.Tests.{lt-leb}
use Rattle.choice.specs.Choice.{choose, choose_told, both}
use Rattle.cells.specs.Code.{packed, mode_of, count_in, Small}
use Rattle.cells.specs.Heap.{Heap, look, update, undefined, SmallWord, small_held, SmallHeap}
use Rattle.cells.specs.Lent.{lent, word_at, stored}
use Rattle.cells.specs.declared.Mode.{Mode}
use Rattle.cells.specs.declared.Mode.TheVariants.{Checked, Unchecked}
use Rattle.cells.specs.declared.Kind.{Kind}
use Rattle.cells.specs.declared.Kind.TheVariants.{Word, Struct}
use Rattle.cells.specs.declared.Cell.{Cell}
use Rattle.cells.proofs.Codes.{round_trip}
use Rattle.cells.proofs.Heaps.{length_update, small_update, undefined_update}
use Rattle.cells.proofs.View.{word_lent, stored_lent}
use Rattle.calculus.specs.Setting.{Setting, cell, fields_of, is_checked, checked_pointer, checked_empty}
use Rattle.calculus.specs.Steps.{Redex, blocked, halts, gives, fallen, checked_array, defined_then, word_then, sum_redex, field_redex, act_redex}
use Rattle.calculus.specs.declared.Act.{Act}
use Rattle.calculus.specs.declared.Act.TheVariants.{Assign, Sum}
use Rattle.calculus.specs.declared.Halt.{Halt}
use Rattle.calculus.specs.declared.Halt.TheVariants.{Null, Bounds}
use Rattle.tables.specs.Kinds.{field_count_at, field_type_at, code_checked, word_code, fallen_code, HoldsSetting}
use Rattle.tables.proofs.Coded.{Coded, coded_int, coded_word, coded_struct, coded_array, coded_kind, count_kind, count_whole}
use Rattle.tables.proofs.Coded.{checked_kind, array_kind, empty_kind, fallen_kind, fallen_small}
use Rattle.tables.proofs.Held.{field_code, field_small}
use Rattle.yields.specs.declared.Terms.{Terms}
use Rattle.yields.specs.declared.ArrayCounts.{ArrayCounts}
use Rattle.yields.specs.declared.ArrayCounts.TheVariants.{Cut, Whole}
use Rattle.yields.specs.declared.Yield.{Yield}
use Rattle.yields.specs.declared.Yield.TheVariants.{Gives, Halts, Blocked}
use Rattle.yields.specs.Yields.{count_by, holds_gives, behind_words, word_gives, read_gives, struct_gives, field_gives, fallen_by, sum_gives, assign_by}
use Rattle.yields.specs.Yields.{assign_gives, act_gives}

-- ---- what a step makes of a heap: as many words, whose kinds fit their codes, and none undefined that was not
pub record HeapNext (H H' : Heap) : Type 0 where
  pub small : SmallHeap H'
  pub long : length H' ≡ length H
  pub fewer : (b : ℕ) → undefined (look H' b) ≡ true → undefined (look H b) ≡ true

pub heap_stays : {H : Heap} → SmallHeap H → HeapNext H H
heap_stays s = record { small = s; long = refl; fewer = λ b h. h }

updated : {H : Heap} (a : ℕ) (c : Cell) → SmallHeap H → Small c.kind → HeapNext H (update H a c)
updated {H} a c s k =
    record { small = small_update H a c s k; long = length_update H a c; fewer = λ b. undefined_update H a b c }

-- what a node gives, and the heap ws' that its step leaves, are what the definition's redex gives over H in the numbers ws; where it gives
-- no value the heap is as it was
pub data GivesAs (H : Heap) (ws ws' : List ℕ) : Yield → Redex → Type 0 where
  as_blocked : ws' ≡ lent H ws → GivesAs H ws ws' Blocked blocked
  as_halts : {h : Halt} → ws' ≡ lent H ws → GivesAs H ws ws' (Halts h) (halts h)
  as_gives : {c : Cell} {H' : Heap} → ws' ≡ lent H' ws → HeapNext H H' → Small c.kind
      → GivesAs H ws ws' (Gives c.value (packed c.kind)) (gives H' c.value c.kind)

look_past : (H : Heap) (a : ℕ) → length H < a → look H a ≡ None
unfolding look
look_past H zero l = refl
look_past H (suc i) l = get_or-eq_default H None {n = i} (omega arith)

-- a word that is defined is one of the heap's
in_heap : (H : Heap) (a : ℕ) (c : Cell) → look H a ≡ Some c → a ≤ length H
unfolding look
in_heap H zero c e = omega arith
in_heap H (suc i) c e = go (dec_le (suc i) (length H))
  where
    go : Dec (suc i ≤ length H) → suc i ≤ length H
    go (yes l) = l
    go (no n) =
        let q : get_or H i None ≡ None = get_or-eq_default H None {n = i} (omega arith) in
        let z : ◌≡◌ {A = ℕ} 0 1 = cc in
        absurd (omega arith)

-- what a read or an assign at v comes to by its tests, whatever is then done with the word
data Tested (H : Heap) (v : ℕ) : Yield → ((Cell → Redex) → Redex) → Type 0 where
  t_blocked : Tested H v Blocked (λ go. blocked)
  t_halts : {h : Halt} → Tested H v (Halts h) (λ go. halts h)
  t_word : {c : Cell} → look H v ≡ Some c → Tested H v (Gives c.value (packed c.kind)) (λ go. go c)

small_cell : {w : Option Cell} {c : Cell} → w ≡ Some c → SmallWord w → Small c.kind
small_cell {c = c} e s = go (rw e at s)
  where
    go : SmallWord (Some c) → Small c.kind
    go (small_held k) = k

-- a kind whose numbers fit has one count, whichever is read off its code
count_same : (counts : ArrayCounts) {κ : Kind} → Small κ → count_by counts (packed κ) ≡ count_in (packed κ)
count_same Cut k = refl
count_same Whole k = rw (count_kind k) (count_whole k)

fallen_same : (counts : ArrayCounts) {κ : Kind} (k : ℕ) → Small κ → fallen_by counts (packed κ) k ≡ fallen_code (packed κ) k
unfolding fallen_by fallen_code
fallen_same counts k s = rw (count_same counts s)

-- the setting's tables in lent numbers, its terms, and room for the heap's words
pub record OnTerms (S : Setting) (T : Terms) (ws structs types : List ℕ) : Type 0 where
  pub setting : HoldsSetting S structs types
  pub width_is : S.width ≡ 32
  pub low_is : S.low ≡ T.low
  pub high_is : S.high ≡ T.high
  pub low_above : 0 < T.low
  pub high_within : T.high ≤ T.words
  pub heap_room : 2 * T.words ≤ length ws
  pub words_few : T.words ≤ 4096

module _ {S : Setting} {T : Terms} {ws structs types : List ℕ} (L : OnTerms S T ws structs types) (H : Heap) (s : SmallHeap H)
    (long : length H ≡ T.words) where
  -- ---- a node that gives a value and leaves the heap as it is
  pub gives_on : (c : Cell) → Small c.kind → GivesAs H ws (lent H ws) (Gives c.value (packed c.kind)) (gives H c.value c.kind)
  gives_on c k = as_gives {c = c} refl (heap_stays s) k

  pub gives_coded : (v code : ℕ) (κ : Kind) → code ≡ packed κ → Small κ → GivesAs H ws (lent H ws) (Gives v code) (gives H v κ)
  gives_coded v code κ e k = rw e (gives_on (cell v κ) k)

  -- ---- sums and field addresses
  sum_as : (counts : ArrayCounts) (v : ℕ) (κ : Kind) (k : ℕ) → Small κ
      → GivesAs H ws (lent H ws) (sum_gives counts v (packed κ) k) (sum_redex S H v κ k)
  unfolding sum_gives sum_redex
  sum_as counts v κ k sm = rw (array_kind κ, L.width_is, fallen_same counts k sm, fallen_kind κ k sm) (go (both (checked_array κ) (eqb v 0)))
    where
      go : (b : Bool)
          → GivesAs H ws (lent H ws)
          (choose b (λ _. Halts Null) (λ _. Gives ((v + k) % 2 ^ 32) (packed (fallen κ k))))
          (choose b (λ _. halts Null) (λ _. gives H ((v + k) % 2 ^ 32) (fallen κ k)))
      go true = as_halts refl
      go false = gives_on (cell ((v + k) % 2 ^ 32) (fallen κ k)) (fallen_small κ k sm)

  struct_as : (f v code n : ℕ) (m : Mode) → mode_of (code % 2) ≡ m → code_checked code ≡ is_checked m
      → GivesAs H ws (lent H ws) (struct_gives structs f v code n) (field_redex S H f v (Struct m n))
  unfolding struct_gives field_redex
  struct_as f v code n m e c = rw L.width_is (go (dec_lt f (length (fields_of S n))))
    where
      reached : (b : Bool) (code' : ℕ) (κ : Kind) → code' ≡ packed κ → Small κ
          → GivesAs H ws (lent H ws) (choose b (λ _. Halts Null) (λ _. Gives ((v + f) % 2 ^ 32) code'))
          (choose b (λ _. halts Null) (λ _. gives H ((v + f) % 2 ^ 32) κ))
      reached true code' κ e k = as_halts refl
      reached false code' κ e k = gives_coded ((v + f) % 2 ^ 32) code' κ e k

      go : Dec (f < length (fields_of S n))
          → GivesAs H ws (lent H ws)
          (choose (leb (field_count_at structs n) f) (λ _. Blocked) λ _.
          choose (both (code_checked code) (eqb v 0)) (λ _. Halts Null)
          (λ _. Gives ((v + f) % 2 ^ 32) (word_code code (field_type_at structs n f))))
          (choose (ltb f (length (fields_of S n)))
          (λ _. choose (both (is_checked m) (eqb v 0)) (λ _. halts Null)
          (λ _. gives H ((v + f) % 2 ^ 32) (Word m (get_or (fields_of S n) f 0))))
          (λ _. blocked))
      go (yes l) =
          let q : word_code code (field_type_at structs n f) ≡ packed (Word m (get_or (fields_of S n) f 0)) =
          field_code L.setting code n f l ∙ ap (λ (m : Mode). packed (Word m (get_or (fields_of S n) f 0))) e in
          rw (L.setting.count n, lt-leb (length (fields_of S n)) f l, lt-ltb f (length (fields_of S n)) l, c)
          (reached (both (is_checked m) (eqb v 0)) _ _ q (field_small L.setting m n f))
      go (no l) =
          rw (L.setting.count n, le-leb (length (fields_of S n)) f (omega arith), le-ltb f (length (fields_of S n)) (omega arith))
          (as_blocked refl)

  checked_mode : (code : ℕ) → code_checked code ≡ is_checked (mode_of (code % 2))
  checked_mode code = go (eqb (code % 2) 0)
    where
      go : (b : Bool) → b ≡ is_checked (choose b (λ _. Checked) (λ _. Unchecked))
      go true = refl
      go false = refl

  field_coded : (f v : ℕ) {code : ℕ} {κ : Kind} → Coded code κ → GivesAs H ws (lent H ws) (field_gives structs f v code) (field_redex S H f v κ)
  unfolding field_gives field_redex
  field_coded f v (coded_int e) = rw e (as_blocked refl)
  field_coded f v (coded_word e) = rw e (as_blocked refl)
  field_coded f v {code} (coded_struct e) = rw e (struct_as f v code _ _ refl (checked_mode code))
  field_coded f v (coded_array e) = rw e (as_blocked refl)

  pub field_as : (f v : ℕ) (κ : Kind) → Small κ → GivesAs H ws (lent H ws) (field_gives structs f v (packed κ)) (field_redex S H f v κ)
  field_as f v κ sm = field_coded f v (coded_kind sm)

  -- ---- reads and assigns
  held_as : (a : ℕ) → word_gives (lent H ws) T.words a ≡ holds_gives (look H a)
  unfolding word_gives
  held_as a =
      choose_told (λ (y : Yield). y ≡ holds_gives (look H a)) (behind_words T.words a) (λ _. Blocked) (λ _. holds_gives (word_at (lent H ws) a))
      (λ (t : behind_words T.words a ≡ true). rw (look_past H a (omega (arith, ltb-true))))
      (λ (f : behind_words T.words a ≡ false). rw (word_lent H ws a s (omega (arith, ltb-false))))

  read_tested : (counts : ArrayCounts) (v : ℕ) (κ : Kind) → Small κ → Tested H v (read_gives counts (lent H ws) T.words v (packed κ)) (word_then H v κ)
  unfolding read_gives word_then
  read_tested counts v κ k =
      rw (checked_kind κ, count_same counts k, empty_kind k, held_as v) (go (both (checked_pointer κ) (eqb v 0)) (checked_empty κ) (look H v) refl)
    where
      go : (b b' : Bool) (w : Option Cell) → look H v ≡ w
          → Tested H v
          (choose b (λ _. Halts Null) λ _. choose b' (λ _. Halts Bounds) (λ _. holds_gives w))
          (λ f. choose b (λ _. halts Null) λ _. choose b' (λ _. halts Bounds) (λ _. defined_then w f))
      go true b' w e = t_halts
      go false true w e = t_halts
      go false false None e = t_blocked
      go false false (Some d) e = t_word e

  tested_as : {v : ℕ} {y : Yield} {then : (Cell → Redex) → Redex} → Tested H v y then
      → GivesAs H ws (lent H ws) y (then (λ d. gives H d.value d.kind))
  tested_as t_blocked = as_blocked refl
  tested_as t_halts = as_halts refl
  tested_as {v} (t_word {c} e) = gives_on c (small_cell e (s.each v))

  pub read_as : (counts : ArrayCounts) (v : ℕ) (κ : Kind) → Small κ
      → GivesAs H ws (lent H ws) (read_gives counts (lent H ws) T.words v (packed κ)) (word_then H v κ (λ d. gives H d.value d.kind))
  read_as counts v κ k = tested_as (read_tested counts v κ k)

  -- an assign of the cell c
  assign_as : {v : ℕ} {y : Yield} {then : (Cell → Redex) → Redex} (c : Cell) → Small c.kind → Tested H v y then
      → GivesAs H ws (assign_by y (lent H ws) c.value (packed c.kind) v).heap (assign_by y (lent H ws) c.value (packed c.kind) v).yield
      (then (λ _. gives (update H v c) c.value c.kind))
  assign_as c k t_blocked = as_blocked refl
  assign_as c k t_halts = as_halts refl
  assign_as {v} c k (t_word {c = d} e) =
      let es : stored (lent H ws) v c ≡ lent (update H v c) ws = stored_lent H ws v c (in_heap H v d e) (omega (arith, L.heap_room)) in
      rw (round_trip k) (as_gives {c = c} es (updated v c s k) k)

  -- ---- an act on two values: here alone an act is looked at
  pub act_as : (counts : ArrayCounts) (o : Act) (d c : Cell) → Small d.kind → Small c.kind
      → GivesAs H ws (act_gives counts T.words (lent H ws) o c.value (packed c.kind) d.value (packed d.kind)).heap
      (act_gives counts T.words (lent H ws) o c.value (packed c.kind) d.value (packed d.kind)).yield
      (act_redex S H o d.value d.kind c.value c.kind)
  unfolding assign_gives
  act_as counts Assign d c kd kc = assign_as c kc (read_tested counts d.value d.kind kd)
  act_as counts Sum d c kd kc = sum_as counts d.value d.kind c.value kd
