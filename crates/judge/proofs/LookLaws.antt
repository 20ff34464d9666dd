-- A look at a literal: if it goes on, the words that the literal needs are marked entries of the kinds claimed; if it is off, the literal
-- is not good.
use Rattle.std.specs.Prelude.{Option, Some, None}
use mathlib.Core.Path.{◌≡◌, refl, sym, ◌∙◌, ap}
use mathlib.Core.Bool.{false}
use mathlib.Core.List.{List}
use Prim.Native.Nat.{ℕ, ◌+◌, ◌-◌, ◌≤◌, ◌<◌}
use native.Mathlib.Omega.{arith}
use lib.Dec.{eqb}
use borrow.Author.Tests.{eqb-true, eqb-false}
use Rattle.choice.specs.Choice.{choose_told}
use Rattle.cells.specs.Code.{packed, unpacked}
use Rattle.cells.specs.Heap.{Heap, look}
use Rattle.cells.specs.declared.Cell.{Cell}
use Rattle.cells.proofs.Codes.{round_trip}
use Rattle.calculus.specs.Setting.{Setting, cell, size, word_kind}
use Rattle.calculus.specs.Literal.{is_base}
use Rattle.calculus.proofs.Same.{holds, refuted, fails}
use Rattle.calculus.specs.Reach.{Good, good_base, good_words}
use Rattle.tables.specs.Kinds.{code_tag, word_type_at, HoldsSetting}
use Rattle.judge.specs.Rows.{entry_at}
use Rattle.judge.specs.Addresses.{entries, covered}
use Rattle.judge.specs.Marks.{Seen}
use Rattle.judge.specs.Literals as model
use Rattle.judge.specs.Literals.{Looking, on, off, span, claim, look_fields, look_alike, look_words, look_found}
use Rattle.judge.proofs.HeldTables.{HoldsHeap, literal_at}
use Rattle.judge.proofs.AddressLaws.{found_there, there_found}
use Rattle.tables.proofs.Held.{word_code_lem, words_small}
use Rattle.judge.proofs.Spans.{span_base, span_size}
use Rattle.judge.proofs.MarkLaws.{HasMark, Grown, grown_none}
use Rattle.judge.proofs.ReachLaws.{Fit, Joins, Words, words_on, words_off, alike, fields}

-- entry `index` is the i-th word that the literal needs
pub record Needed (structs types cells : List ℕ) (v code i index : ℕ) : Type 0 where
  pub few : i < span structs v code
  pub below : index < entries cells
  pub address : entry_at cells index 0 ≡ v + i
  pub kind : entry_at cells index 2 ≡ claim structs types code i

-- each word that the literal needs is a marked entry
pub record NeededWord (structs types cells marks : List ℕ) (v code i : ℕ) : Type 0 where
  pub index : ℕ
  pub needed : Needed structs types cells v code i index
  pub marked : HasMark marks index

pub record Closed (structs types cells marks : List ℕ) (v code : ℕ) : Type 0 where
  pub each : (i : ℕ) → i < span structs v code → NeededWord structs types cells marks v code i

-- more marks do no harm
pub closed_still : {structs types cells marks marks' : List ℕ} {v code : ℕ} → ((j : ℕ) → HasMark marks j → HasMark marks' j)
    → Closed structs types cells marks v code → Closed structs types cells marks' v code
closed_still still c =
    record { each = λ i l. let w = c.each i l in record { index = w.index; needed = w.needed; marked = still w.index w.marked } }

module _ {S : Setting} {H : Heap} {structs types cells : List ℕ} (hs : HoldsSetting S structs types) (hh : HoldsHeap H cells) where
  -- what a look may find
  pub data Looks (P : ℕ → Type 0) (s : Seen) (v code : ℕ) : Looking → Type 0 where
    looks_on : {s' : Seen} → Grown cells P s s' → Fit cells s' → Closed structs types cells s'.marks v code → Looks P s v code (on s')
    looks_off : {marks queue : List ℕ} → (Good S H v (unpacked code) → ⊥) → Looks P s v code (off marks queue)

  -- a literal that needs words is not base, and needs those that its target covers
  needs_words : (v code : ℕ) → (span structs v code ≡ 0 → ⊥) → is_base v (unpacked code) ≡ false
  needs_words v code n = fails (is_base v (unpacked code)) (λ b. n (span_base hs v code (holds (is_base v (unpacked code)) b)))

  -- a word of the right kind has the code claimed
  right_code : (v code i j : ℕ) (w : ℕ) → i < size S (unpacked code) → j < entries cells → entry_at cells j 0 ≡ v + i
      → look H (v + i) ≡ Some (cell w (word_kind S (unpacked code) i)) → entry_at cells j 2 ≡ claim structs types code i
  right_code v code i j w l b a t =
      let e : Some (literal_at cells j) ≡ Some (cell w (word_kind S (unpacked code) i)) = sym (hh.held j b) ∙ rw a t in
      let f : literal_at cells j ≡ cell w (word_kind S (unpacked code) i) = cc in
      sym (hh.exact j b) ∙ ap (λ (c : Cell). packed c.kind) f ∙ sym (word_code_lem hs code i l)

  -- an entry with the code claimed is a word of the right kind
  pub right_kind : (code i j : ℕ) → i < size S (unpacked code) → entry_at cells j 2 ≡ claim structs types code i
      → unpacked (entry_at cells j 2) ≡ word_kind S (unpacked code) i
  right_kind code i j l e = ap unpacked (e ∙ word_code_lem hs code i l) ∙ round_trip (words_small hs (unpacked code) i)

  module _ (v code : ℕ) (n : span structs v code ≡ 0 → ⊥) where
    abbrev found : Option ℕ
    found = covered cells v (span structs v code - 1)

    -- a good literal's words are found, and have the codes claimed
    good_found : Good S H v (unpacked code) → found ≡ None → ⊥
    good_found (good_base b) e = refuted (needs_words v code n) b
    good_found (good_words w there) e =
        let k : span structs v code ≡ size S (unpacked code) = span_size hs v code (needs_words v code n) in
        there_found cells hh.rising v (span structs v code - 1)
        (λ i l. hh.only (v + i) (cell (w i) (word_kind S (unpacked code) i)) (there i (omega arith))) e

    good_codes : (first : ℕ) → found ≡ Some first → Good S H v (unpacked code) → (i : ℕ) → i < span structs v code
        → entry_at cells (first + i) 2 ≡ claim structs types code i
    good_codes first m (good_base b) i l = absurd (refuted (needs_words v code n) b)
    good_codes first m (good_words w there) i l =
        let k : span structs v code ≡ size S (unpacked code) = span_size hs v code (needs_words v code n) in
        let f = found_there cells hh.rising v (span structs v code - 1) first m in
        right_code v code i (first + i) (w i) (omega arith) (omega (arith, f.below)) (f.each i (omega arith)) (there i (omega arith))

    module _ (first : ℕ) (m : found ≡ Some first) where
      -- words that are found and have the codes claimed are those needed
      found_needed : (i : ℕ) → i < span structs v code → entry_at cells (first + i) 2 ≡ claim structs types code i
          → Needed structs types cells v code i (first + i)
      found_needed i l e =
          let f = found_there cells hh.rising v (span structs v code - 1) first m in
          record { few = l; below = omega (arith, f.below); address = f.each i (omega arith); kind = e }

      words_looked : {P : ℕ → Type 0} {s : Seen} (l : Looking) → Words cells P (claim structs types code) (span structs v code) first s l
          → Looks P s v code l
      words_looked (on s') (words_on g t k) =
          looks_on g t
          (record { each = λ i l. record { index = first + i; needed = found_needed i l (k i l).code_is; marked = (k i l).marked } })
      words_looked (off marks queue) (words_off a) = looks_off (λ g. a (good_codes first m g))

      -- all words of a pointer to anything but a struct are claimed to be alike
      same_claim : (eqb (code_tag code) 2 ≡ false) → (i : ℕ) → claim structs types code i ≡ claim structs types code 0
      unfolding word_type_at
      same_claim t i = rw t

      looks_words : {P : ℕ → Type 0} (s : Seen) → Fit cells s → ((i j : ℕ) → Needed structs types cells v code i j → P j)
          → Looks P s v code (look_words structs types cells code first (span structs v code) s)
      looks_words {P} s t p =
          let f = found_there cells hh.rising v (span structs v code - 1) first m in
          let b : first + span structs v code ≤ entries cells = omega (arith, f.below) in
          let z : first + 0 ≡ first = omega arith in
          let joins : Joins cells P (claim structs types code) (span structs v code) first =
          record { each = λ d l e. p d (first + d) (found_needed d l e) } in
          choose_told (Looks P s v code) (eqb (code_tag code) 2)
          (λ _. look_fields structs types cells code first (span structs v code) 0 s)
          (λ _. look_alike cells (claim structs types code 0) (span structs v code) (span structs v code) first s)
          (λ u. words_looked _
          (rw z at (fields {P = P} structs types code first (span structs v code) 0 s {f = claim structs types code}
          (λ d. let y : 0 + d ≡ d = omega arith in rw y) (omega arith) t
          (rw z joins))))
          (λ u. words_looked _
          (alike (claim structs types code 0) (span structs v code) first s (same_claim u) b t joins))

  pub looks : {P : ℕ → Type 0} (s : Seen) (v code : ℕ) → Fit cells s → ((i j : ℕ) → Needed structs types cells v code i j → P j)
      → Looks P s v code (model.look_at structs types cells v code s)
  unfolding model.look_at
  looks {P} s v code t p =
      let k : ℕ = span structs v code in
      choose_told (Looks P s v code) (eqb k 0) (λ _. on s) _
      (λ u. looks_on (grown_none s) t (record { each = λ i l. absurd (let z : k ≡ 0 = eqb-true k 0 u in omega arith) }))
      (λ u. go (eqb-false k 0 u) (covered cells v (k - 1)) refl)
    where
      go : (span structs v code ≡ 0 → ⊥) → (o : Option ℕ) → covered cells v (span structs v code - 1) ≡ o
          → Looks P s v code (look_found structs types cells o code (span structs v code) s)
      go n (Some first) e = looks_words v code n first e s t p
      go n None e = looks_off (λ g. good_found v code n g e)
