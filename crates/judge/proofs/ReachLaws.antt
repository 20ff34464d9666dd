-- A mark is a true reach: so many entries from its own on are marked and have its entry's code. So a pass over words of one code may skip
-- what a mark reaches, and finds the same as one that looks at every word. While such a pass goes on, the marks that it has met reach as
-- far as its words do, which are still to come: they are true once it has ended well, and if it ends badly nothing asks for them.
use mathlib.Core.Path.{◌≡◌, sym, ◌∙◌}
use mathlib.Core.Logic.{◌⊎◌, inl, inr, ⊎_elim}
use mathlib.Core.List.{List}
use Prim.Native.Nat.{ℕ, zero, suc, ◌+◌, ◌-◌, ◌≤◌, ◌<◌}
use native.Mathlib.Decide.{ℕ_discrete, dec_lt}
use native.Mathlib.Omega.{arith}
use lib.Dec.{eqb, ltb, leb}
use lib.ListN.{length, get_or, set}
use lib.Seq.{get_or-set_same, get_or-set_other}
use borrow.Author.Tests.{eqb-true, eqb-false, ltb-true, ltb-false, leb-true, leb-false, ne_eqb}
use Rattle.choice.specs.Choice.{choose_told}
use Rattle.judge.specs.Rows.{entry_at}
use Rattle.judge.specs.Addresses.{entries}
use Rattle.judge.specs.Marks.{Seen, alone, marked}
use Rattle.judge.specs.Literals.{Looking, on, off, claim, look_alike, look_fields}
use Rattle.judge.proofs.MarkLaws.{HasMark, Roomy, Grown, grown_none, grown_then, Marks, marks_new, marks_raised, set_is, set_still}

-- entry j has this code and is marked
pub record SeenAs (cells marks : List ℕ) (code j : ℕ) : Type 0 where
  pub code_is : entry_at cells j 2 ≡ code
  pub marked : HasMark marks j

-- every mark is a true reach
pub record TrueReaches (cells marks : List ℕ) : Type 0 where
  pub each : (k i : ℕ) → i < get_or marks k 0 → SeenAs cells marks (entry_at cells k 2) (k + i)

-- there is room, and marks are true
pub record Fit (cells : List ℕ) (s : Seen) : Type 0 where
  pub roomy : Roomy (entries cells) s
  pub reach : TrueReaches cells s.marks

-- ---- the reaches while a pass is at entry j
-- entry k was met, and reaches to entry l, which is still to come
record Coming (cells : List ℕ) (code j end k l : ℕ) : Type 0 where
  code_is : entry_at cells k 2 ≡ code
  met : k < j
  from : j ≤ l
  to : l < end

record Reaching (cells marks : List ℕ) (code j end : ℕ) : Type 0 where
  each : (k i : ℕ) → i < get_or marks k 0 → SeenAs cells marks (entry_at cells k 2) (k + i) ⊎ Coming cells code j end k (k + i)

reaching : {cells marks : List ℕ} {code j end : ℕ} → TrueReaches cells marks → Reaching cells marks code j end
reaching r = record { each = λ k i h. inl (r.each k i h) }

known_still : {cells marks marks' : List ℕ} {code j : ℕ} → ((k : ℕ) → HasMark marks k → HasMark marks' k) → SeenAs cells marks code j
    → SeenAs cells marks' code j
known_still {j = j} still k = record { code_is = k.code_is; marked = still j k.marked }

module _ {cells marks : List ℕ} {code j end : ℕ} (r : Reaching cells marks code j end) where
  -- the reach of the entry that the pass is at is true
  reach_here : entry_at cells j 2 ≡ code → (d : ℕ) → d < get_or marks j 0 → SeenAs cells marks code (j + d)
  reach_here e d h = ⊎_elim (λ k. rw e at k) (λ c. absurd (omega (arith, c.met))) (r.each j d h)

  -- nothing is still to come if all words up to the end are known
  reached : ((l : ℕ) → j ≤ l → l < end → SeenAs cells marks code l) → TrueReaches cells marks
  reached all =
      record { each = λ k i h. ⊎_elim (λ n. n) (λ c. rw c.code_is (all (k + i) c.from c.to)) (r.each k i h) }

-- entry j is met: its mark reaches as far as the words do, and the pass goes on `far` words ahead
module _ {cells marks : List ℕ} {code j left : ℕ} (far : ℕ) (r : Reaching cells marks code j (j + left)) (e : entry_at cells j 2 ≡ code)
    (o : 0 < left) (l : j < length marks) (q : 0 < far) (near : (d : ℕ) → d < far → (d < get_or marks j 0) ⊎ (d ≡ 0)) where
  -- what it passes is known
  passed : (d : ℕ) → d < far → SeenAs cells (set marks j left) code (j + d)
  passed d h =
      ⊎_elim
      (λ b. known_still (set_still marks j left o l) (reach_here r e d b))
      (λ z. let f : j + d ≡ j = omega arith in rw f (record { code_is = e; marked = set_is marks j left o l }))
      (near d h)

  goes_on : Reaching cells (set marks j left) code (j + far) (j + left)
  goes_on = record { each = λ k i h. each k i h (ℕ_discrete k j) }
    where
      ahead : (k i : ℕ) → k < j + far → entry_at cells k 2 ≡ code → j ≤ k + i → k + i < j + left → Dec (k + i < j + far)
          → SeenAs cells (set marks j left) (entry_at cells k 2) (k + i) ⊎ Coming cells code (j + far) (j + left) k (k + i)
      ahead k i m c f t (yes b) =
          let g : k + i ≡ j + (k + i - j) = omega arith in
          inl (rw (c, g) (passed (k + i - j) (omega arith)))
      ahead k i m c f t (no b) = inr (record { code_is = c; met = m; from = omega (arith, b); to = t })

      each : (k i : ℕ) → i < get_or (set marks j left) k 0 → Dec (k ≡ j)
          → SeenAs cells (set marks j left) (entry_at cells k 2) (k + i) ⊎ Coming cells code (j + far) (j + left) k (k + i)
      each k i h (yes f) =
          let g : get_or (set marks j left) k 0 ≡ left = rw f (get_or-set_same marks j left 0 l) in
          ahead k i (omega arith) (rw f e) (omega arith) (omega arith) (dec_lt (k + i) (j + far))
      each k i h (no f) =
          let g : get_or (set marks j left) k 0 ≡ get_or marks k 0 = get_or-set_other marks j k left 0 f in
          ⊎_elim
          (λ n. inl (known_still (set_still marks j left o l) n))
          (λ c. ahead k i (omega (arith, c.met)) c.code_is c.from c.to (dec_lt (k + i) (j + far)))
          (r.each k i (omega arith))

-- ---- passes
-- `left` words from entry j on have the property P if they have the codes that f tells
pub record Joins (cells : List ℕ) (P : ℕ → Type 0) (f : ℕ → ℕ) (left j : ℕ) : Type 0 where
  pub each : (d : ℕ) → d < left → entry_at cells (j + d) 2 ≡ f d → P (j + d)

-- entry j after it was marked by itself
record One (cells : List ℕ) (P : ℕ → Type 0) (code j : ℕ) (s s' : Seen) : Type 0 where
  grown : Grown cells P s s'
  fit : Fit cells s'
  known : SeenAs cells s'.marks code j

-- what a pass over `left` words from entry j on may find, if they are claimed to have the codes that f tells
pub data Words (cells : List ℕ) (P : ℕ → Type 0) (f : ℕ → ℕ) (left j : ℕ) (s : Seen) : Looking → Type 0 where
  words_on : {s' : Seen} → Grown cells P s s' → Fit cells s' → ((d : ℕ) → d < left → SeenAs cells s'.marks (f d) (j + d))
      → Words cells P f left j s (on s')
  words_off : {marks queue : List ℕ} → (((d : ℕ) → d < left → entry_at cells (j + d) 2 ≡ f d) → ⊥) → Words cells P f left j s (off marks queue)

module _ {cells : List ℕ} {P : ℕ → Type 0} where
  -- a pass goes on behind `far` words that are known
  words_then : {f : ℕ → ℕ} {far rest left j : ℕ} {s s' : Seen} → far + rest ≡ left → Grown cells P s s'
      → ((d : ℕ) → d < far → SeenAs cells s'.marks (f d) (j + d))
      → (l : Looking) → Words cells P (λ d. f (far + d)) rest (j + far) s' l → Words cells P f left j s l
  words_then {f} {far} {rest} {left} {j} {s} {s'} e g k (on s'') (words_on h t n) =
      words_on (grown_then g h) t (λ d b. go d b (dec_lt d far))
    where
      go : (d : ℕ) → d < left → Dec (d < far) → SeenAs cells s''.marks (f d) (j + d)
      go d b (yes a) = known_still h.still (k d a)
      go d b (no a) =
          let x : j + d ≡ j + far + (d - far) = omega (arith, a) in
          let y : d ≡ far + (d - far) = omega (arith, a) in
          let z : SeenAs cells s''.marks (f (far + (d - far))) (j + far + (d - far)) = n (d - far) (omega (arith, a)) in
          rw x (rw (← y) at z)
  words_then {f} {far} {rest} {left} {j} e g k (off marks queue) (words_off n) =
      words_off (λ all. n (λ d b. let x : j + far + d ≡ j + (far + d) = omega arith in rw x (all (far + d) (omega arith))))

  -- what joins from `far` words on
  later : {f : ℕ → ℕ} {left j : ℕ} → Joins cells P f left j → (far rest : ℕ) → far + rest ≤ left → Joins cells P (λ d. f (far + d)) rest (j + far)
  later {f} {left} {j} p far rest l =
      record { each = λ d h e. let x : j + far + d ≡ j + (far + d) = omega arith in rw x (p.each (far + d) (omega arith) (rw x at e)) }

  -- ---- words of one code
  -- the pass has ended
  none_left : {f : ℕ → ℕ} {code left j : ℕ} {s : Seen} → left ≤ 0 → Roomy (entries cells) s → Reaching cells s.marks code j (j + left)
      → Words cells P f left j s (on s)
  none_left {s = s} z r t =
      words_on (grown_none s) (record { roomy = r; reach = reached t (λ k h m. absurd (omega arith)) }) (λ d h. absurd (omega arith))

  -- entry j is met
  module _ {f : ℕ → ℕ} {code : ℕ} (c : (d : ℕ) → f d ≡ code) {left j : ℕ} {s : Seen} (o : 0 < left)
      (r : Roomy (entries cells) s) (t : Reaching cells s.marks code j (j + left)) (b : j < entries cells) (e : entry_at cells j 2 ≡ code) where
    -- its mark reaches over all that is left
    rest_known : left ≤ get_or s.marks j 0 → Words cells P f left j s (on s)
    rest_known h =
        words_on (grown_none s)
        (record {
          roomy = r;
          reach = reached t (λ k x y. let z : k ≡ j + (k - j) = omega arith in rw z (reach_here t e (k - j) (omega arith)));
        })
        (λ d a. rw (c d) (reach_here t e d (omega arith)))

    -- it is marked anew or its mark is raised, and the pass goes on `far` words ahead
    met : {s' : Seen} (far : ℕ) → 0 < far → far ≤ left → ((d : ℕ) → d < far → (d < get_or s.marks j 0) ⊎ (d ≡ 0))
        → Marks cells P (entries cells) j left s s'
        → (l : Looking)
        → (Roomy (entries cells) s' → Reaching cells s'.marks code (j + far) (j + far + (left - far))
        → Words cells P (λ d. f (far + d)) (left - far) (j + far) s' l)
        → Words cells P f left j s l
    met {s'} far q h near m l go =
        let y : j + left ≡ j + far + (left - far) = omega arith in
        words_then (omega arith) m.grown
        (λ d a. rw (c d, m.set_to) (passed far t e o (omega (arith, r.long)) q near d a))
        l
        (go m.roomy (rw (m.set_to, ← y) (goes_on far t e o (omega (arith, r.long)) q near)))

  -- the pass from entry j on, with what it has met so far
  alike_from : (code deep left j : ℕ) (s : Seen) {f : ℕ → ℕ} → ((d : ℕ) → f d ≡ code) → left ≤ deep → j + left ≤ entries cells
      → Roomy (entries cells) s → Reaching cells s.marks code j (j + left)
      → Joins cells P f left j
      → Words cells P f left j s (look_alike cells code deep left j s)
  unfolding look_alike
  alike_from code zero left j s c l b r t p = none_left (omega arith) r t
  alike_from code (suc deep) left j s {f} c l b r t p =
      choose_told (Words cells P f left j s) (ltb 0 left) _ (λ _. on s)
      (λ u. let o : 0 < left = ltb-true 0 left u in
      choose_told (Words cells P f left j s) (eqb (entry_at cells j 2) code) _ (λ _. off s.marks s.queue)
      (λ v. let e : entry_at cells j 2 ≡ code = eqb-true (entry_at cells j 2) code v in
      let y : j + 0 ≡ j = omega arith in
      let x : P j = rw y at (p.each 0 o (rw y (e ∙ sym (c 0)))) in
      choose_told (Words cells P f left j s) (eqb (get_or s.marks j 0) 0) _ _
      (λ w. let z : get_or s.marks j 0 ≡ 0 = eqb-true (get_or s.marks j 0) 0 w in
      met c o r t (omega arith) e 1 (omega arith) (omega arith) (λ d h. inr (omega arith))
      (marks_new j left s o r (omega arith) code e z x) _
      (λ r' t'. alike_from code deep (left - 1) (j + 1) _ (λ d. c (1 + d)) (omega arith) (omega arith) r' t' (later p 1 (left - 1) (omega arith))))
      (λ w. let m : HasMark s.marks j = eqb-false (get_or s.marks j 0) 0 w in
      choose_told (Words cells P f left j s) (leb left (get_or s.marks j 0)) (λ _. on s) _
      (λ a. let h : left ≤ get_or s.marks j 0 = leb-true left (get_or s.marks j 0) a in
      rest_known c o r t (omega arith) e h)
      (λ a. let h : get_or s.marks j 0 < left = leb-false left (get_or s.marks j 0) a in
      met c o r t (omega arith) e (get_or s.marks j 0) (omega (arith, m)) (omega arith) (λ d i. inl i)
      (marks_raised j left s o r (omega arith) m) _
      (λ r' t'. alike_from code deep (left - get_or s.marks j 0) (j + get_or s.marks j 0) _ (λ d. c (get_or s.marks j 0 + d))
      (omega (arith, m)) (omega arith) r' t'
      (later p (get_or s.marks j 0) (left - get_or s.marks j 0) (omega arith))))))
      (λ v. words_off (λ all. eqb-false (entry_at cells j 2) code v
      (let y : j + 0 ≡ j = omega arith in (rw y at (all 0 o)) ∙ c 0))))
      (λ u. none_left (ltb-false 0 left u) r t)

  -- the whole pass
  pub alike : (code left j : ℕ) (s : Seen) {f : ℕ → ℕ} → ((d : ℕ) → f d ≡ code) → j + left ≤ entries cells → Fit cells s
      → Joins cells P f left j
      → Words cells P f left j s (look_alike cells code left left j s)
  alike code left j s c b t p = alike_from code left left j s c (omega arith) b t.roomy (reaching t.reach) p

  -- ---- fields
  -- entry j by itself: if it is new it reaches no further
  by_itself : {code j : ℕ} {s : Seen} → Fit cells s → j < entries cells → entry_at cells j 2 ≡ code → P j → One cells P code j s (marked code alone j s)
  unfolding marked
  by_itself {code} {j} {s} t b e p = go (ℕ_discrete (get_or s.marks j 0) 0)
    where
      go : Dec (get_or s.marks j 0 ≡ 0) → One cells P code j s (marked code alone j s)
      go (yes z) =
          let m = marks_new {P = P} j alone s (omega arith) t.roomy b code e z p in
          let l : j < length s.marks = omega (arith, t.roomy.long) in
          record {
            grown = m.grown;
            fit = record {
              roomy = m.roomy;
              reach =
                  rw m.set_to
                  (reached
                  (goes_on {code = code} {left = alone} 1 (reaching t.reach) e (omega arith) l (omega arith) (λ d h. inr (omega arith)))
                  (λ k f g. absurd (omega arith)));
            };
            known = record { code_is = e; marked = rw m.set_to (set_is s.marks j alone (omega arith) l) };
          }
      go (no n) =
          rw (ne_eqb (get_or s.marks j 0) 0 n)
          (record { grown = grown_none s; fit = t; known = record { code_is = e; marked = n } })

  -- the pass from the i-th field on
  pub fields : (structs types : List ℕ) (code first left i : ℕ) (s : Seen) {f : ℕ → ℕ} → ((d : ℕ) → f d ≡ claim structs types code (i + d))
      → first + i + left ≤ entries cells → Fit cells s
      → Joins cells P f left (first + i)
      → Words cells P f left (first + i) s (look_fields structs types cells code first left i s)
  unfolding look_fields
  fields structs types code first zero i s c b t p = words_on (grown_none s) t (λ d h. absurd (omega arith))
  fields structs types code first (suc left) i s {f} c b t p =
      let y : first + i + 0 ≡ first + i = omega arith in
      let x : i + 0 ≡ i = omega arith in
      let g : f 0 ≡ claim structs types code i = rw x at (c 0) in
      choose_told (Words cells P f (suc left) (first + i) s) (eqb (entry_at cells (first + i) 2) (claim structs types code i)) _ (λ _. off s.marks s.queue)
      (λ v. let e : entry_at cells (first + i) 2 ≡ claim structs types code i = eqb-true _ _ v in
      let m : One cells P (claim structs types code i) (first + i) s (marked (claim structs types code i) alone (first + i) s) =
      by_itself t (omega arith) e (rw y at (p.each 0 (omega arith) (rw y (e ∙ sym g)))) in
      let a : first + (i + 1) ≡ first + i + 1 = omega arith in
      words_then {far = 1} (omega arith) m.grown
      (λ d h. let z : d ≡ 0 = omega arith in rw (z, y, g) m.known)
      _
      (rw a at (fields structs types code first left (i + 1) _ {f = λ d. f (1 + d)}
      (λ d. let z : i + 1 + d ≡ i + (1 + d) = omega arith in rw z (c (1 + d))) (omega arith) m.fit
      (rw a (later p 1 left (omega arith))))))
      (λ v. words_off (λ all. eqb-false (entry_at cells (first + i) 2) (claim structs types code i) v ((rw y at (all 0 (omega arith))) ∙ g)))
