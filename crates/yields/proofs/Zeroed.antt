-- malloc: the run that is found from the hint on is the lowest, and the words that become zeros are the definition's.
use Rattle.std.proofs.Common.{◌≡◌, ℕ, zero, suc, ◌+◌, ◌<◌, ◌≤◌, List, length, refl, ◌∙◌, arith, le-leb}
use native.Mathlib.Decide.{dec_le}
use borrow.Author.Tests.{lt-leb}
use Rattle.cells.specs.Code.{packed, Small}
use Rattle.cells.specs.Heap.{Heap, look, update, undefined, SmallHeap}
use Rattle.cells.specs.Free.{lowest_in}
use Rattle.cells.specs.Lent.{lent, stored, lowest_run}
use Rattle.cells.specs.declared.Kind.{Kind}
use Rattle.cells.specs.declared.Cell.{Cell}
use Rattle.cells.proofs.Heaps.{length_update, small_update, undefined_update}
use Rattle.cells.proofs.View.{stored_lent, lowest_lent}
use Rattle.cells.proofs.Free.{Vacant, Lowest, lowest_from_lem, vacant_before}
use Rattle.calculus.specs.Setting.{Setting, cell, size, word_kind}
use Rattle.calculus.specs.Steps.{zeroed}
use Rattle.tables.proofs.Held.{word_kind_lem, words_small}
use Rattle.yields.specs.declared.Hint.{Hint}
use Rattle.yields.specs.declared.Terms.{Terms}
use Rattle.yields.specs.Malloc.{one_more, room_hint, zero_words, sought_from}
use Rattle.yields.proofs.GivesAs.{HeapNext, heap_stays, OnTerms}

-- ---- words are never freed: no run of a hint's size, or of more, starts from the lowest address on and below the hint
pub record HintHolds (H : Heap) (low : ℕ) (r : Hint) : Type 0 where
  pub from_low : low ≤ r.from
  pub none : (k s : ℕ) → r.size ≤ k → low ≤ s → s < r.from → Vacant (λ a. undefined (look H a)) k s → ⊥

pub hint_after : {H H' : Heap} {low : ℕ} {r : Hint} → HeapNext H H' → HintHolds H low r → HintHolds H' low r
hint_after n t =
    record { from_low = t.from_low; none = λ k s l m b v. t.none k s l m b (vacant_before _ k 0 _ k s (omega arith) n.fewer v) }

-- a search may start where the hint says
from_hint : {H : Heap} {low : ℕ} {r : Hint} (k high : ℕ) → HintHolds H low r
    → lowest_in (λ a. undefined (look H a)) k (sought_from r k low) high ≡ lowest_in (λ a. undefined (look H a)) k low high
from_hint {H} {low} {r} k high t = go (dec_le r.size k)
  where
    go : Dec (r.size ≤ k) → lowest_in (λ a. undefined (look H a)) k (sought_from r k low) high ≡ lowest_in (λ a. undefined (look H a)) k low high
    go (yes l) = rw (le-leb r.size k l) (lowest_from_lem _ k high low r.from t.from_low (λ s. t.none k s l))
    go (no n) = rw (lt-leb r.size k (omega arith))

-- no run of that size starts below the lowest
hint_found : {H : Heap} {k low high a : ℕ} → Lowest (λ b. undefined (look H b)) k low high a → HintHolds H low (room_hint k a)
hint_found {k = k} l =
    record { from_low = l.from; none = λ k' s m p n v. l.first s p n (vacant_before _ k 0 _ k' s m (λ b h. h) v) }

module _ {S : Setting} {T : Terms} {ws structs types : List ℕ} (L : OnTerms S T ws structs types) where
  -- zeros stored word by word are the definition's
  pub record ZerosAs (κ : Kind) (k a i : ℕ) (H : Heap) : Type 0 where
    pub held : zero_words structs types (packed κ) k a i (lent H ws) ≡ lent (zeroed S κ k a i H) ws
    pub next : HeapNext H (zeroed S κ k a i H)

  zeros_as : (κ : Kind) (k a i : ℕ) (H : Heap) → Small κ → 0 < a → a + k ≤ T.words + 1 → i + k ≤ size S κ → i < a
      → SmallHeap H → length H ≡ T.words → ZerosAs κ k a i H
  unfolding zero_words zeroed stored
  zeros_as κ zero a i H sm p l n q s w = record { held = refl; next = heap_stays s }
  zeros_as κ (suc k) a i H sm p l n q s w =
      let c : Cell = cell 0 (word_kind S κ i) in
      let few = L.words_few in
      let rest = zeros_as κ k (suc a) (suc i) (update H a c) sm (omega arith) (omega arith) (omega arith) (omega arith)
      (small_update H a c s (words_small L.setting κ i)) (length_update H a c ∙ w) in
      let ea : one_more a ≡ suc a = omega arith in
      let ei : one_more i ≡ suc i = omega arith in
      let es : stored (lent H ws) a c ≡ lent (update H a c) ws = stored_lent H ws a c (omega arith) (omega (arith, L.heap_room)) in
      record {
        held = rw (word_kind_lem L.setting i sm (omega arith), es, ea, ei) rest.held;
        next = record {
          small = rest.next.small;
          long = rest.next.long ∙ length_update H a c;
          fewer = λ b h. undefined_update H a b c (rest.next.fewer b h);
        };
      }

  -- the run found is the definition's; the words taken, and what that leaves known of the room
  pub found_as : (H : Heap) (r : Hint) (k : ℕ) → SmallHeap H → length H ≡ T.words → HintHolds H T.low r
      → lowest_run (lent H ws) k (sought_from r k T.low) T.high ≡ lowest_in (λ a. undefined (look H a)) k S.low S.high
  found_as H r k s w t =
      let fits : T.high ≤ length H = omega (arith, L.high_within) in
      lowest_lent H ws k (sought_from r k T.low) T.high s (omega (arith, L.heap_room)) fits
      ∙ from_hint k T.high t
      ∙ rw (L.low_is, L.high_is)

  pub taken_as : {κ : Kind} {H : Heap} {a : ℕ} → Small κ → SmallHeap H → length H ≡ T.words
      → Lowest (λ b. undefined (look H b)) (size S κ) S.low S.high a → ZerosAs κ (size S κ) a 0 H
  taken_as {κ} {H} {a} sm s w l =
      zeros_as κ (size S κ) a 0 H sm (omega (arith, l.from, L.low_is, L.low_above)) (omega (arith, l.within, L.high_is, L.high_within))
      (omega arith) (omega (arith, l.from, L.low_is, L.low_above)) s w

  pub hint_as : {κ : Kind} {H : Heap} {k a : ℕ} → Lowest (λ b. undefined (look H b)) k S.low S.high a → ZerosAs κ k a 0 H
      → HintHolds (zeroed S κ k a 0 H) T.low (room_hint k a)
  hint_as l z = hint_after z.next (rw L.low_is at (hint_found l))
