-- The literal check, from look to look: every marked entry is closed or waits in the queue, and what waits is reached from the literal that
-- is judged. So if the queue is drained all that is marked is well typed, and if a look is off the literal is not.
use Rattle.std.specs.Prelude.{Some}
use mathlib.Core.Path.{◌≡◌, refl, subst, ap}
use mathlib.Core.Logic.{◌⊎◌, inl, inr, ⊎_elim}
use mathlib.Core.Bool.{Bool, true, false}
use mathlib.Core.List.{List, []}
use Prim.Native.Nat.{ℕ, zero, suc, ◌+◌, ◌≤◌, ◌<◌}
use native.Mathlib.Decide.{ℕ_discrete, dec_lt}
use native.Mathlib.Omega.{arith}
use lib.Dec.{eqb, ltb}
use lib.ListN.{length, get_or}
use borrow.Author.Tests.{ltb-true, ltb-false}
use Rattle.choice.specs.Choice.{choose, choose_told}
use Rattle.cells.specs.Code.{unpacked}
use Rattle.cells.specs.Heap.{Heap, look}
use Rattle.cells.specs.Lent.{value_in}
use Rattle.cells.specs.declared.Kind.{Kind}
use Rattle.cells.specs.declared.Cell.{Cell}
use Rattle.calculus.specs.Setting.{Setting, cell, size, word_kind}
use Rattle.calculus.specs.Literal.{WellLit, is_base, literal_well}
use Rattle.calculus.proofs.Same.{holds, as_true, fails}
use Rattle.calculus.specs.Reach.{Good, good_base, good_words, Covers, Reach, itself, further}
use Rattle.calculus.proofs.Scope.{well_good, reach_well}
use Rattle.calculus.proofs.Literals.{closed_test, test_well}
use Rattle.tables.specs.Kinds.{code_checked, size_at, HoldsSetting}
use Rattle.judge.specs.Rows.{entry_at}
use Rattle.judge.specs.Addresses.{entries}
use Rattle.judge.specs.Marks.{Seen}
use Rattle.judge.specs.Literals as model
use Rattle.judge.specs.Literals.{Looking, on, off, span, then_look}
use Rattle.judge.proofs.HeldTables.{HoldsHeap, literal_at}
use Rattle.judge.proofs.Spans.{span_base, span_size}
use Rattle.judge.proofs.MarkLaws.{HasMark, Plain, Queued, queued_still, queued_from, Grown}
use Rattle.judge.proofs.ReachLaws.{Fit}
use Rattle.judge.proofs.LookLaws.{Needed, Closed, closed_still, Looks, looks_on, looks_off, right_kind, looks}

module _ {S : Setting} {H : Heap} {structs types cells : List ℕ} (hs : HoldsSetting S structs types) (hh : HoldsHeap H cells) where
  -- the words that entry j needs are marked
  abbrev ClosedEntry : List ℕ → ℕ → Type 0
  ClosedEntry marks j = Closed structs types cells marks (entry_at cells j 1) (entry_at cells j 2)

  -- a plain entry needs no words
  plain_closed : {marks : List ℕ} (j : ℕ) → Plain cells j → ClosedEntry marks j
  unfolding span
  plain_closed j p =
      record {
        each = λ i l.
            absurd
            (let z : span structs (entry_at cells j 1) (entry_at cells j 2) ≡ 0 = needs_none (eqb (entry_at cells j 1) 0) in omega arith);
      }
    where
      needs_none : (t : Bool) → choose t (λ _. 0) (λ _. choose (code_checked (entry_at cells j 2)) (λ _. size_at structs (entry_at cells j 2)) (λ _. 0)) ≡ 0
      needs_none true = refl
      needs_none false = rw p

  -- every marked entry is closed
  pub record Settled (s : Seen) : Type 0 where
    pub fit : Fit cells s
    pub each : (j : ℕ) → j < entries cells → HasMark s.marks j → ClosedEntry s.marks j

  -- ---- drained: what is marked is well typed
  -- d is a literal whose words are all marked
  record Done (marks : List ℕ) (d : Cell) : Type 0 where
    code : ℕ
    is : unpacked code ≡ d.kind
    closed : Closed structs types cells marks d.value code

  module _ (s : Seen) (all : Settled s) where
    -- a word that a closed literal covers is a marked entry, of the right kind
    record CoveredWord (v : ℕ) (κ : Kind) (i : ℕ) : Type 0 where
      index : ℕ
      below : index < entries cells
      marked : HasMark s.marks index
      there : look H (v + i) ≡ Some (literal_at cells index)
      kind : unpacked (entry_at cells index 2) ≡ word_kind S κ i

    closed_word : (v code : ℕ) → Closed structs types cells s.marks v code → (i : ℕ) → is_base v (unpacked code) ≡ false
        → i < size S (unpacked code) → CoveredWord v (unpacked code) i
    closed_word v code c i e l =
        let k : span structs v code ≡ size S (unpacked code) = span_size hs v code e in
        let w = c.each i (omega arith) in
        let n = w.needed in
        record {
          index = w.index;
          below = n.below;
          marked = w.marked;
          there = rw n.address at (hh.held w.index n.below);
          kind = right_kind hs hh code i w.index l n.kind;
        }

    covered_word : (d : Cell) → Done s.marks d → (i : ℕ) → is_base d.value d.kind ≡ false → i < size S d.kind
        → CoveredWord d.value d.kind i
    covered_word d c i =
        subst (λ (κ : Kind). is_base d.value κ ≡ false → i < size S κ → CoveredWord d.value κ i) c.is
        (closed_word d.value c.code c.closed i)

    done_good : (d : Cell) → Done s.marks d → Good S H d.value d.kind
    done_good d c = go (is_base d.value d.kind) refl
      where
        go : (t : Bool) → is_base d.value d.kind ≡ t → Good S H d.value d.kind
        go true e = good_base (as_true e)
        go false e =
            good_words (λ i. value_in (look H (d.value + i)))
            (λ i l. let w = covered_word d c i e l in rw (w.there, w.kind))

    done_closed : (c d : Cell) → Done s.marks c → Covers S H c d → Done s.marks d
    done_closed c d p k =
        let w = covered_word c p k.at k.pointer k.inside in
        let e : literal_at cells w.index ≡ d = cc (w.there, k.there) in
        record {
          code = entry_at cells w.index 2;
          is = ap (λ (x : Cell). x.kind) e;
          closed = rw (← e) (all.each w.index w.below w.marked);
        }

    pub settled_well : (v code : ℕ) → Closed structs types cells s.marks v code → literal_well S H v (unpacked code) ≡ true
    settled_well v code c =
        holds (literal_well S H v (unpacked code))
        (closed_test S H (Done s.marks) done_good done_closed (cell v (unpacked code)) (record { code = code; is = refl; closed = c }))

  -- ---- draining, for the literal c₀
  module _ (c₀ : Cell) where
    -- entry j is reached from the literal
    abbrev Reached : ℕ → Type 0
    Reached j = (j < entries cells) × Reach S H c₀ (literal_at cells j)

    record Waiting (head : ℕ) (s : Seen) : Type 0 where
      fit : Fit cells s
      behind : head ≤ s.tail
      each : (j : ℕ) → j < entries cells → HasMark s.marks j → ClosedEntry s.marks j ⊎ Queued s head j
      reached : (q : ℕ) → head ≤ q → q < s.tail → Reached (get_or s.queue q 0)

    -- a word that a reached literal needs is reached
    needed_reached : (v code : ℕ) → Reach S H c₀ (cell v (unpacked code)) → (i j : ℕ) → Needed structs types cells v code i j → Reached j
    needed_reached v code r i j n = go (is_base v (unpacked code)) refl
      where
        go : (t : Bool) → is_base v (unpacked code) ≡ t → Reached j
        go true e = absurd (omega (arith, span_base hs v code e, n.few))
        go false e = (
          n.below,
          further r
              (record {
                at = i;
                pointer = e;
                inside = omega (arith, span_size hs v code e, n.few);
                there = rw n.address at (hh.held j n.below);
              }),
        )

    more_waiting : {head : ℕ} {s s' : Seen} → Waiting head s → Grown cells Reached s s' → Fit cells s' → Waiting head s'
    more_waiting {head} {s} {s'} w g r =
        record {
          fit = r;
          behind = omega (arith, w.behind, g.tails);
          each = λ j b m.
              ⊎_elim
              (λ m'. ⊎_elim (λ c. inl (closed_still g.still c)) (λ q. inr (queued_still g q)) (w.each j b m'))
              (λ k. ⊎_elim (λ p. inl (plain_closed j p)) (λ q. inr (queued_from w.behind q)) k)
              (g.fresh j m);
          reached = λ q h k. early q h k (dec_lt q s.tail);
        }
      where
        early : (q : ℕ) → head ≤ q → q < s'.tail → Dec (q < s.tail) → Reached (get_or s'.queue q 0)
        early q h k (yes b) = rw (g.kept q b) (w.reached q h b)
        early q h k (no b) = g.joined q (omega (arith, b)) k

    -- the entry that `head` is at was looked at
    one_less : {head : ℕ} {s : Seen} → Waiting head s → head < s.tail → ClosedEntry s.marks (get_or s.queue head 0) → Waiting (head + 1) s
    one_less {head} {s} w l c =
        record {
          fit = w.fit;
          behind = omega arith;
          each = λ j b m. ⊎_elim (λ d. inl d) (λ q. here j q (ℕ_discrete q.at head)) (w.each j b m);
          reached = λ q h k. w.reached q (omega arith) k;
        }
      where
        here : (j : ℕ) (q : Queued s head j) → Dec (q.at ≡ head) → ClosedEntry s.marks j ⊎ Queued s (head + 1) j
        here j q (yes e) = let f : get_or s.queue head 0 ≡ j = rw e at q.is in inl (rw f at c)
        here j q (no n) = inr (record { at = q.at; behind = omega (arith, q.behind, n); before = q.before; is = q.is })

    none_waits : {head : ℕ} {s : Seen} → Waiting head s → s.tail ≤ head → Settled s
    none_waits w l =
        record { fit = w.fit; each = λ j b m. ⊎_elim (λ d. d) (λ q. absurd (omega (arith, q.behind, q.before))) (w.each j b m) }

    -- what draining comes to
    data Drains (s : Seen) : Looking → Type 0 where
      drains_on : {s' : Seen} → Settled s' → ((j : ℕ) → HasMark s.marks j → HasMark s'.marks j) → Drains s (on s')
      drains_off : {marks queue : List ℕ} → (WellLit S H [] c₀.value c₀.kind → ⊥) → Drains s (off marks queue)

    -- a look that goes on, or one that is off at a reached literal
    data Steps (head : ℕ) (s : Seen) (v code : ℕ) : Looking → Type 0 where
      steps_on : {s' : Seen} → Waiting head s' → Grown cells Reached s s' → Closed structs types cells s'.marks v code → Steps head s v code (on s')
      steps_off : {marks queue : List ℕ} → (WellLit S H [] c₀.value c₀.kind → ⊥) → Steps head s v code (off marks queue)

    steps : (head : ℕ) (s : Seen) (v code : ℕ) → Waiting head s → Reach S H c₀ (cell v (unpacked code))
        → Steps head s v code (model.look_at structs types cells v code s)
    steps head s v code w r = go _ (looks hs hh s v code w.fit (needed_reached v code r))
      where
        go : (l : Looking) → Looks hs hh Reached s v code l → Steps head s v code l
        go (on s') (looks_on g o c) = steps_on (more_waiting w g o) g c
        go (off marks queue) (looks_off n) = steps_off (λ x. n (well_good (reach_well r x)))

    drains : (deep head : ℕ) (s : Seen) → length s.queue ≤ head + deep → Waiting head s → Drains s (model.drain structs types cells deep head s)
    unfolding model.drain
    drains zero head s l w = drains_on (none_waits w (omega (arith, w.fit.roomy.room))) (λ j m. m)
    drains (suc deep) head s l w =
        choose_told (Drains s) (ltb head s.tail)
        (λ _. then_look (model.look_at structs types cells (entry_at cells (get_or s.queue head 0) 1) (entry_at cells (get_or s.queue head 0) 2) s)
        (model.drain structs types cells deep (head + 1)))
        (λ _. on s)
        (λ t. let h : head < s.tail = ltb-true head s.tail t in
        next h (drains deep (head + 1)) _ (steps head s _ _ w (w.reached head (omega arith) h).1))
        (λ t. drains_on (none_waits w (ltb-false head s.tail t)) (λ j m. m))
      where
        next : head < s.tail
            → ((s' : Seen) → length s'.queue ≤ head + 1 + deep → Waiting (head + 1) s' → Drains s' (model.drain structs types cells deep (head + 1) s'))
            → (k : Looking) → Steps head s (entry_at cells (get_or s.queue head 0) 1) (entry_at cells (get_or s.queue head 0) 2) k
            → Drains s (then_look k (model.drain structs types cells deep (head + 1)))
        next h rec (on s') (steps_on w' g c) =
            after g _ (rec s' (omega (arith, g.queues)) (one_less w' (omega (arith, g.tails)) (rw (g.kept head h) c)))
          where
            after : {s s' : Seen} → Grown cells Reached s s' → (k : Looking) → Drains s' k → Drains s k
            after g (on s'') (drains_on a f) = drains_on a (λ j m. f j (g.still j m))
            after g (off marks queue) (drains_off n) = drains_off n
        next h rec (off marks queue) (steps_off n) = drains_off n

  -- ---- a literal
  pub data Judges (v code : ℕ) : Looking → Type 0 where
    judges_good : {s : Seen} → Settled s → literal_well S H v (unpacked code) ≡ true → Judges v code (on s)
    judges_bad : {marks queue : List ℕ} → literal_well S H v (unpacked code) ≡ false → Judges v code (off marks queue)

  pub judges : (s : Seen) (v code : ℕ) → Settled s → Judges v code (model.literal_look structs types cells v code s)
  unfolding model.literal_look
  judges s v code a =
      first _
      (steps (cell v (unpacked code)) s.tail s v code
      (record {
        fit = a.fit;
        behind = omega arith;
        each = λ j b m. inl (a.each j b m);
        reached = λ q h k. absurd (omega arith);
      })
      itself)
    where
      bad : (WellLit S H [] v (unpacked code) → ⊥) → literal_well S H v (unpacked code) ≡ false
      bad n = fails (literal_well S H v (unpacked code)) (λ t. n (test_well S H (suc (length H)) [] v (unpacked code) t))

      last : (s' : Seen) → Closed structs types cells s'.marks v code → (k : Looking) → Drains (cell v (unpacked code)) s' k → Judges v code k
      last s' c (on s'') (drains_on b f) = judges_good b (settled_well s'' b v code (closed_still f c))
      last s' c (off marks queue) (drains_off n) = judges_bad (bad n)

      first : (k : Looking) → Steps (cell v (unpacked code)) s.tail s v code k
          → Judges v code (then_look k (model.drain structs types cells (length s.queue) s.tail))
      first (on s') (steps_on w g c) = last s' c _ (drains (cell v (unpacked code)) (length s.queue) s.tail s' (omega (arith, g.queues)) w)
      first (off marks queue) (steps_off n) = judges_bad (bad n)
