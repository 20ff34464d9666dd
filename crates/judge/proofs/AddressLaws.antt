-- Of the search in a cell table with rising addresses: what is found is there, word by word, and what is there is found.
use Rattle.std.specs.Prelude.{Option, Some, None}
use Rattle.std.proofs.lemmas.Option.{none-some}
use mathlib.Core.Path.{◌≡◌, refl, sym, ◌∙◌}
use mathlib.Core.Logic.{⊎_elim}
use mathlib.Core.Bool.{Bool, true, false}
use mathlib.Core.List.{List}
use Prim.Native.Nat.{ℕ, zero, suc, ◌+◌, ◌-◌, ◌≤◌, ◌<◌}
use native.Mathlib.Nat.{eq-or-lt_of_le, le_antisymm}
use native.Mathlib.Omega.{arith}
use lib.Dec.{eqb, ltb, leb}
use borrow.Author.Tests.{ltb-true, ltb-false, lt-ltb, leb-true, leb-false, eqb-true, eq-eqb}
use Rattle.choice.specs.Choice.{choose, both, choose_told}
use Rattle.calculus.proofs.Same.{as_true}
use Rattle.judge.specs.Rows.{entry_at}
use Rattle.judge.specs.Addresses.{middle, entries, lowest_from, place, present, covered}
use Rattle.judge.proofs.Lists.{has_number}
use Rattle.judge.proofs.HeldTables.{Entry}

not_lt : {m n : ℕ} → (n < m → ⊥) → m ≤ n
not_lt {m} {n} h = go (leb m n) (leb-true m n) (leb-false m n)
  where
    go : (t : Bool) → (t ≡ true → m ≤ n) → (t ≡ false → n < m) → m ≤ n
    go true f g = f refl
    go false f g = absurd (h (g refl))

not_le : {m n : ℕ} → (n ≤ m → ⊥) → m < n
not_le h = not_lt (λ l. h (omega arith))

module _ (cells : List ℕ) (rising : (i j : ℕ) → i < j → j < entries cells → entry_at cells i 0 < entry_at cells j 0) where
  mono : (i j : ℕ) → i ≤ j → j < entries cells → entry_at cells i 0 ≤ entry_at cells j 0
  mono i j l h = ⊎_elim (λ e. rw e (omega arith)) (λ k. omega (arith, rising i j k h)) (eq-or-lt_of_le l)

  -- addresses rise by one at least from entry to entry
  apart : (j i : ℕ) → j + i < entries cells → entry_at cells j 0 + i ≤ entry_at cells (j + i) 0
  apart j zero h = let e : j + 0 ≡ j = omega arith in rw e (omega arith)
  apart j (suc i) h = omega (arith, apart j i (omega arith), rising (j + i) (j + suc i) (omega arith) h)

  -- entry j is the first whose address is at least v
  record First (v j : ℕ) : Type 0 where
    within : j ≤ entries cells
    before : (i : ℕ) → i < j → entry_at cells i 0 < v
    behind : (i : ℕ) → j ≤ i → i < entries cells → v ≤ entry_at cells i 0

  lowest : (v deep low high : ℕ) → high ≤ entries cells → high ≤ low + deep → low ≤ high → ((i : ℕ) → i < low → entry_at cells i 0 < v)
      → ((i : ℕ) → high ≤ i → i < entries cells → v ≤ entry_at cells i 0) → First v (lowest_from cells v deep low high)
  unfolding lowest_from
  lowest v zero low high w d l b f =
      record { within = omega arith; before = b; behind = λ i k h. f i (omega arith) h }
  lowest v (suc deep) low high w d l b f =
      choose_told (First v) (ltb low high)
      (λ _. choose (ltb (entry_at cells (middle low high) 0) v)
      (λ _. lowest_from cells v deep (middle low high + 1) high) (λ _. lowest_from cells v deep low (middle low high)))
      (λ _. low)
      (λ t. let h : low < high = ltb-true low high t in
      choose_told (First v) (ltb (entry_at cells (middle low high) 0) v)
      (λ _. lowest_from cells v deep (middle low high + 1) high) (λ _. lowest_from cells v deep low (middle low high))
      (λ u. lowest v deep (middle low high + 1) high w (omega arith) (omega arith)
      (λ i k. omega (arith, mono i (middle low high) (omega arith) (omega arith), ltb-true (entry_at cells (middle low high) 0) v u)) f)
      (λ u. lowest v deep low (middle low high) (omega arith) (omega arith) (omega arith) b
      (λ i k m. omega (arith, mono (middle low high) i k m, ltb-false (entry_at cells (middle low high) 0) v u))))
      (λ t. let h : high ≤ low = ltb-false low high t in
      record { within = omega arith; before = b; behind = λ i k m. f i (omega arith) m })

  abbrev searched : ℕ → ℕ
  searched v = lowest_from cells v (entries cells) 0 (entries cells)

  searched_first : (v : ℕ) → First v (searched v)
  searched_first v =
      lowest v (entries cells) 0 (entries cells) (omega arith) (omega arith) (omega arith)
      (λ i h. absurd (omega arith))
      (λ i h k. absurd (omega arith))

  -- an entry with the address is the one that the search finds
  searched_at : (v : ℕ) (e : Entry cells v) → searched v ≡ e.index
  searched_at v e = le_antisymm (not_behind (searched v) (searched_first v)) (not_before (searched v) (searched_first v))
    where
      not_behind : (j : ℕ) → First v j → j ≤ e.index
      not_behind j f = not_lt (λ h. omega (arith, f.before e.index h, e.is))

      not_before : (j : ℕ) → First v j → e.index ≤ j
      not_before j f = not_lt (λ h. omega (arith, f.behind j (omega arith) (omega (arith, e.below)), rising j e.index h e.below, e.is))

  -- no two entries have one address
  alone : (i j : ℕ) → i < entries cells → j < entries cells → entry_at cells i 0 ≡ entry_at cells j 0 → i ≡ j
  alone i j h k e = le_antisymm (not_lt (λ l. omega (arith, rising j i l h))) (not_lt (λ l. omega (arith, rising i j l k)))

  -- a guess that has the address is an entry
  guess_below : (v : ℕ) → Entry cells v → entry_at cells (v - 1) 0 ≡ v → v - 1 < entries cells
  guess_below zero e h = omega (arith, e.below)
  guess_below (suc v) e h = has_number 3 cells (suc v - 1) 0 (λ z. omega arith)

  abbrev sought : ℕ → ℕ
  sought v = place cells (entries cells) v

  -- so the guess, if it has the address, is what the search would find
  sought_at : (v : ℕ) (e : Entry cells v) → sought v ≡ e.index
  unfolding place
  sought_at v e =
      choose_told (λ j. j ≡ e.index) (eqb (entry_at cells (v - 1) 0) v) (λ _. v - 1) (λ _. searched v)
      (λ t. let h : entry_at cells (v - 1) 0 ≡ v = eqb-true _ v t in alone (v - 1) e.index (guess_below v e h) e.below (h ∙ sym e.is))
      (λ t. searched_at v e)

  -- the words from v on, `more` behind the first, are entries from j on
  pub record Consecutive (v more j : ℕ) : Type 0 where
    pub below : j + more < entries cells
    pub each : (i : ℕ) → i ≤ more → entry_at cells (j + i) 0 ≡ v + i

  present_each : (v more j : ℕ) → present cells (entries cells) j v more ≡ true → Consecutive v more j
  unfolding present
  present_each v more j = go (ltb more (entries cells - j)) (eqb (entry_at cells j 0) v)
      (ltb-true more (entries cells - j)) (eqb-true (entry_at cells j 0) v)
    where
      go : (s t : Bool) → (s ≡ true → more < entries cells - j) → (t ≡ true → entry_at cells j 0 ≡ v)
          → both s (both t (eqb (entry_at cells (j + more) 0 - v) more)) ≡ true → Consecutive v more j
      go false t g h e = absurd (as_true e)
      go true false g h e = absurd (as_true e)
      go true true g h e =
          let b : j + more < entries cells = omega (arith, g refl) in
          let d : entry_at cells (j + more) 0 - v ≡ more = eqb-true _ _ e in
          record {
            below = b;
            each = λ i l.
                let k : more ≡ i + (more - i) = omega arith in
                let m : (j + i) + (more - i) ≡ j + more = omega arith in
                let far : entry_at cells (j + i) 0 + (more - i) ≤ entry_at cells (j + more) 0 = rw m at (apart (j + i) (more - i) (omega arith)) in
                omega (arith, h refl, apart j i (omega arith), far, d, apart j more b);
          }

  -- what is found is there
  pub found_there : (v more j : ℕ) → covered cells v more ≡ Some j → Consecutive v more j
  unfolding covered
  found_there v more j =
      choose_told (λ (o : Option ℕ). o ≡ Some j → Consecutive v more j) (present cells (entries cells) (sought v) v more) (λ _. Some (sought v)) (λ _. None)
      (λ t e. let s : sought v ≡ j = cc in rw s at (present_each v more (sought v) t))
      (λ t e. absurd (none-some j e))

  -- words that are all there are entries one behind the other
  consecutive : (v more : ℕ) → ((i : ℕ) → i ≤ more → Entry cells (v + i)) → (e : Entry cells v) → (i : ℕ) → i ≤ more
      → (e.index + i < entries cells) × (entry_at cells (e.index + i) 0 ≡ v + i)
  consecutive v more all e zero l = let f : e.index + 0 ≡ e.index = omega arith in rw f (e.below, omega (arith, e.is))
  consecutive v more all e (suc i) l =
      let (b, s) = consecutive v more all e i (omega arith) in
      next (e.index + i) (e.index + suc i) b s (all (suc i) l) (omega arith)
    where
      next : (j k : ℕ) → j < entries cells → entry_at cells j 0 ≡ v + i → (f : Entry cells (v + suc i)) → k ≡ j + 1
          → (k < entries cells) × (entry_at cells k 0 ≡ v + suc i)
      next j k b s f e =
          let l : j < f.index = not_le (λ h. omega (arith, mono f.index j h b, s, f.is)) in
          let c : k < entries cells = omega (arith, f.below) in
          (c, omega (arith, rising j k (omega arith) c, s, mono k f.index (omega arith) f.below, f.is))

  -- what is there is found
  pub there_found : (v more : ℕ) → ((i : ℕ) → i ≤ more → Entry cells (v + i)) → covered cells v more ≡ None → ⊥
  unfolding covered present
  there_found v more all =
      let z : v + 0 ≡ v = omega arith in
      let e : Entry cells v = rw z at (all 0 (omega arith)) in
      let (b, s) = consecutive v more all e more (omega arith) in
      rw (
        sought_at v e,
        lt-ltb more (entries cells - e.index) (omega arith),
        eq-eqb (entry_at cells e.index 0) v e.is,
        eq-eqb (entry_at cells (e.index + more) 0 - v) more (omega arith),
      )
      (λ h. none-some e.index (sym h))
