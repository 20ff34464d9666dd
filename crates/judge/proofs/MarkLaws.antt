-- Of marking: what was marked stays so, what is newly marked is plain or joins the queue behind the rest, and there is room for every
-- entry, because the entries that are not marked yet are never more than the numbers left in the queue.
use mathlib.Core.Path.{◌≡◌, refl, sym, ◌∙◌}
use mathlib.Core.Logic.{◌⊎◌, inl, inr, ⊎_elim}
use mathlib.Core.Bool.{Bool, true, false}
use mathlib.Core.List.{List}
use Prim.Native.Nat.{ℕ, zero, suc, ◌+◌, ◌≤◌, ◌<◌}
use native.Mathlib.Decide.{ℕ_discrete, dec_lt}
use native.Mathlib.Omega.{arith}
use lib.Dec.{eqb}
use lib.ListN.{length, length-set, get_or, set}
use lib.Seq.{get_or-set_same, get_or-set_other}
use borrow.Author.Tests.{eq-eqb, ne_eqb, lt-ltb}
use Rattle.choice.specs.Choice.{choose, choose_case, choose_told}
use Rattle.tables.specs.Kinds.{code_checked}
use Rattle.judge.specs.Rows.{entry_at}
use Rattle.judge.specs.Marks.{Seen, seen, marked}

-- entry j is marked
abbrev pub HasMark : List ℕ → ℕ → Type 0
HasMark marks j = get_or marks j 0 ≡ 0 → ⊥

-- how many of the first n entries are not marked
pub blank : ℕ → List ℕ → ℕ
blank zero marks = 0
blank (suc n) marks = choose (eqb (get_or marks n 0) 0) (λ _. suc (blank n marks)) (λ _. blank n marks)

pub blank_most : (n : ℕ) (marks : List ℕ) → blank n marks ≤ n
unfolding blank
blank_most zero marks = omega arith
blank_most (suc n) marks =
    choose_case (λ k. k ≤ suc n) (eqb (get_or marks n 0) 0) (λ _. suc (blank n marks)) (λ _. blank n marks)
    (omega (arith, blank_most n marks)) (omega (arith, blank_most n marks))

-- a mark behind the first n changes nothing
blank_behind : (n : ℕ) (marks : List ℕ) (j v : ℕ) → n ≤ j → blank n (set marks j v) ≡ blank n marks
unfolding blank
blank_behind zero marks j v l = refl
blank_behind (suc n) marks j v l =
    rw (get_or-set_other marks j n v 0 (λ e. omega arith), blank_behind n marks j v (omega arith))

-- a mark on one of them makes them one less
blank_less : (n : ℕ) (marks : List ℕ) (j v : ℕ) → 0 < v → j < n → n ≤ length marks → get_or marks j 0 ≡ 0
    → suc (blank n (set marks j v)) ≡ blank n marks
unfolding blank
blank_less zero marks j v o h l e = absurd (omega arith)
blank_less (suc n) marks j v o h l e = go (ℕ_discrete j n) (λ i. blank_less n marks j v o i (omega arith) e)
  where
    here : j ≡ n → suc (blank (suc n) (set marks j v)) ≡ blank (suc n) marks
    here f =
        let g : get_or (set marks n v) n 0 ≡ v = get_or-set_same marks n v 0 (omega arith) in
        let z : get_or marks n 0 ≡ 0 = rw f at e in
        rw (f, g, ne_eqb v 0 (λ y. omega arith), z, blank_behind n marks n v (omega arith))

    bring : (t : Bool) (k : ℕ) → suc (choose {A = ℕ} t (λ _. suc k) (λ _. k)) ≡ choose t (λ _. suc (suc k)) (λ _. suc k)
    bring true k = refl
    bring false k = refl

    go : Dec (j ≡ n) → (j < n → suc (blank n (set marks j v)) ≡ blank n marks)
        → suc (blank (suc n) (set marks j v)) ≡ blank (suc n) marks
    go (yes f) r = here f
    go (no f) r =
        rw (get_or-set_other marks j n v 0 (λ g. f (sym g)), ← r (omega (arith, f))) (bring (eqb (get_or marks n 0) 0) (blank n (set marks j v)))

-- a mark that is raised leaves them as many
blank_same : (n : ℕ) (marks : List ℕ) (j v : ℕ) → 0 < v → n ≤ length marks → HasMark marks j → blank n (set marks j v) ≡ blank n marks
unfolding blank
blank_same zero marks j v o l m = refl
blank_same (suc n) marks j v o l m = go (ℕ_discrete n j) (blank_same n marks j v o (omega arith) m)
  where
    go : Dec (n ≡ j) → blank n (set marks j v) ≡ blank n marks → blank (suc n) (set marks j v) ≡ blank (suc n) marks
    go (yes e) same =
        let g : get_or (set marks j v) n 0 ≡ v = rw e (get_or-set_same marks j v 0 (omega arith)) in
        let k : get_or marks n 0 ≡ 0 → ⊥ = rw e m in
        rw (g, ne_eqb v 0 (λ y. omega arith), ne_eqb (get_or marks n 0) 0 k, same)
    go (no e) same = rw (get_or-set_other marks j n v 0 e, same)

-- ---- one mark is set
module _ (marks : List ℕ) (j v : ℕ) (o : 0 < v) (l : j < length marks) where
  pub set_is : HasMark (set marks j v) j
  set_is e = let g : get_or (set marks j v) j 0 ≡ v = get_or-set_same marks j v 0 l in omega arith

  pub set_still : (k : ℕ) → HasMark marks k → HasMark (set marks j v) k
  set_still k m = go (ℕ_discrete k j)
    where
      go : Dec (k ≡ j) → HasMark (set marks j v) k
      go (yes e) = rw e set_is
      go (no e) = λ f. m (sym (get_or-set_other marks j k v 0 e) ∙ f)

  set_fresh : (k : ℕ) → HasMark (set marks j v) k → (k ≡ j) ⊎ HasMark marks k
  set_fresh k m = go (ℕ_discrete k j)
    where
      go : Dec (k ≡ j) → (k ≡ j) ⊎ HasMark marks k
      go (yes e) = inl e
      go (no e) = inr (λ f. m (get_or-set_other marks j k v 0 e ∙ f))

-- there is room for the entries that are not marked yet
pub record Roomy (n : ℕ) (s : Seen) : Type 0 where
  pub long : n ≤ length s.marks
  pub room : s.tail + blank n s.marks ≤ length s.queue

-- entry j stands in the queue, at `from` or later
pub record Queued (s : Seen) (from j : ℕ) : Type 0 where
  pub at : ℕ
  pub behind : from ≤ at
  pub before : at < s.tail
  pub is : get_or s.queue at 0 ≡ j

-- words of entry j's code never need others
abbrev pub Plain : List ℕ → ℕ → Type 0
Plain cells j = code_checked (entry_at cells j 2) ≡ false

-- From s to s' more was seen. What is new is plain or joined the queue, and what joined it has the property P.
pub record Grown (cells : List ℕ) (P : ℕ → Type 0) (s s' : Seen) : Type 0 where
  pub tails : s.tail ≤ s'.tail
  pub queues : length s'.queue ≡ length s.queue
  pub kept : (q : ℕ) → q < s.tail → get_or s'.queue q 0 ≡ get_or s.queue q 0
  pub still : (j : ℕ) → HasMark s.marks j → HasMark s'.marks j
  pub fresh : (j : ℕ) → HasMark s'.marks j → HasMark s.marks j ⊎ (Plain cells j ⊎ Queued s' s.tail j)
  pub joined : (q : ℕ) → s.tail ≤ q → q < s'.tail → P (get_or s'.queue q 0)

pub grown_none : {cells : List ℕ} {P : ℕ → Type 0} (s : Seen) → Grown cells P s s
grown_none s =
    record {
      tails = omega arith;
      queues = refl;
      kept = λ q h. refl;
      still = λ j m. m;
      fresh = λ j m. inl m;
      joined = λ q h k. absurd (omega arith);
    }

-- what is queued stays in its place
pub queued_still : {cells : List ℕ} {P : ℕ → Type 0} {s s' : Seen} {from j : ℕ} → Grown cells P s s' → Queued s from j → Queued s' from j
queued_still g q =
    record { at = q.at; behind = q.behind; before = omega (arith, g.tails, q.before); is = g.kept q.at q.before ∙ q.is }

-- and is queued from an earlier place on too
pub queued_from : {s : Seen} {from from' j : ℕ} → from' ≤ from → Queued s from j → Queued s from' j
queued_from l q = record { at = q.at; behind = omega (arith, q.behind); before = q.before; is = q.is }

pub grown_then : {cells : List ℕ} {P : ℕ → Type 0} {s s' s'' : Seen} → Grown cells P s s' → Grown cells P s' s'' → Grown cells P s s''
grown_then {cells} {P} {s} {s'} {s''} g h =
    record {
      tails = omega (arith, g.tails, h.tails);
      queues = h.queues ∙ g.queues;
      kept = λ q l. h.kept q (omega (arith, g.tails)) ∙ g.kept q l;
      still = λ j m. h.still j (g.still j m);
      fresh = λ j m.
          ⊎_elim
          (λ m'. ⊎_elim (λ m''. inl m'') (λ k. inr (⊎_elim (λ p. inl p) (λ q. inr (queued_still h q)) k)) (g.fresh j m'))
          (λ k. inr (⊎_elim (λ p. inl p) (λ q. inr (queued_from g.tails q)) k))
          (h.fresh j m);
      joined = λ q l k. early q l k (dec_lt q s'.tail);
    }
  where
    early : (q : ℕ) → s.tail ≤ q → q < s''.tail → Dec (q < s'.tail) → P (get_or s''.queue q 0)
    early q l k (yes b) = rw (h.kept q b) (g.joined q l b)
    early q l k (no b) = h.joined q (omega (arith, b)) k

-- ---- entry j is marked, or its reach is raised
-- the mark is v, and there is still room
pub record Marks (cells : List ℕ) (P : ℕ → Type 0) (n j v : ℕ) (s s' : Seen) : Type 0 where
  pub grown : Grown cells P s s'
  pub roomy : Roomy n s'
  pub set_to : s'.marks ≡ set s.marks j v

module _ {cells : List ℕ} {P : ℕ → Type 0} {n : ℕ} (j v : ℕ) (s : Seen) (o : 0 < v) (r : Roomy n s) (l : j < n) where
  marks_plain : get_or s.marks j 0 ≡ 0 → Plain cells j → Marks cells P n j v s (seen (set s.marks j v) s.queue s.tail)
  marks_plain z p =
      let inside : j < length s.marks = omega (arith, r.long) in
      let less : suc (blank n (set s.marks j v)) ≡ blank n s.marks = blank_less n s.marks j v o l r.long z in
      record {
        grown =
            record {
              tails = omega arith;
              queues = refl;
              kept = λ q h. refl;
              still = set_still s.marks j v o inside;
              fresh = λ k m. ⊎_elim (λ e. inr (inl (rw e p))) (λ f. inl f) (set_fresh s.marks j v o inside k m);
              joined = λ q h k. absurd (omega arith);
            };
        roomy = record { long = rw length-set r.long; room = omega (arith, r.room) };
        set_to = refl;
      }

  marks_queued : get_or s.marks j 0 ≡ 0 → P j
      → Marks cells P n j v s (seen (set s.marks j v) (set s.queue s.tail j) (s.tail + 1))
  marks_queued z p =
      let inside : j < length s.marks = omega (arith, r.long) in
      let less : suc (blank n (set s.marks j v)) ≡ blank n s.marks = blank_less n s.marks j v o l r.long z in
      let put : get_or (set s.queue s.tail j) s.tail 0 ≡ j = get_or-set_same s.queue s.tail j 0 (omega (arith, r.room)) in
      record {
        grown =
            record {
              tails = omega arith;
              queues = length-set s.queue s.tail j;
              kept = λ q h. get_or-set_other s.queue s.tail q j 0 (λ e. omega arith);
              still = set_still s.marks j v o inside;
              fresh = λ k m.
                  ⊎_elim
                  (λ e. inr (inr (record { at = s.tail; behind = omega arith; before = omega arith; is = put ∙ sym e })))
                  (λ f. inl f)
                  (set_fresh s.marks j v o inside k m);
              joined = λ q h k. let e : q ≡ s.tail = omega arith in rw (e, put) p;
            };
        roomy = record { long = rw length-set r.long; room = rw length-set (omega (arith, r.room)) };
        set_to = refl;
      }

  pub marks_new : (code : ℕ) → entry_at cells j 2 ≡ code → get_or s.marks j 0 ≡ 0 → P j → Marks cells P n j v s (marked code v j s)
  unfolding marked
  marks_new code e z p =
      let less : suc (blank n (set s.marks j v)) ≡ blank n s.marks = blank_less n s.marks j v o l r.long z in
      rw (eq-eqb (get_or s.marks j 0) 0 z, lt-ltb s.tail (length s.queue) (omega (arith, r.room)))
      (choose_told (Marks cells P n j v s) (code_checked code)
      (λ _. seen (set s.marks j v) (set s.queue s.tail j) (s.tail + 1))
      (λ _. seen (set s.marks j v) s.queue s.tail)
      (λ t. marks_queued z p)
      (λ t. marks_plain z (rw e t)))

  pub marks_raised : HasMark s.marks j → Marks cells P n j v s (seen (set s.marks j v) s.queue s.tail)
  marks_raised m =
      let inside : j < length s.marks = omega (arith, r.long) in
      let same : blank n (set s.marks j v) ≡ blank n s.marks = blank_same n s.marks j v o r.long m in
      record {
        grown =
            record {
              tails = omega arith;
              queues = refl;
              kept = λ q h. refl;
              still = set_still s.marks j v o inside;
              fresh = λ k h. ⊎_elim (λ e. inl (rw e m)) (λ f. inl f) (set_fresh s.marks j v o inside k h);
              joined = λ q h k. absurd (omega arith);
            };
        roomy = record { long = rw length-set r.long; room = omega (arith, r.room) };
        set_to = refl;
      }
