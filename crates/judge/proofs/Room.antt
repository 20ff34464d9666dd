-- The queue ends within its numbers and keeps its length, whatever is looked at; and words that are found present lie within the table.
use Rattle.std.specs.Prelude.{Option, Some, None}
use Rattle.std.proofs.lemmas.Option.{none-some}
use mathlib.Core.Path.{◌≡◌, refl, ◌∙◌}
use mathlib.Core.Bool.{Bool, true, false}
use mathlib.Core.List.{List}
use Prim.Native.Nat.{ℕ, zero, suc, ◌+◌, ◌-◌, ◌≤◌, ◌<◌}
use native.Mathlib.Omega.{arith}
use lib.Dec.{eqb, ltb, leb}
use lib.ListN.{length, length-set, get_or, set}
use borrow.Author.Tests.{ltb-true, ne_eqb}
use Rattle.choice.specs.Choice.{both, choose_case, choose_told}
use Rattle.calculus.proofs.Same.{as_true}
use Rattle.tables.specs.Kinds.{code_checked, code_tag, size_at}
use Rattle.judge.specs.Rows.{entry_at, node_number, operation_at}
use Rattle.judge.specs.Addresses.{present, covered, entries, place}
use Rattle.judge.specs.Marks.{Seen, seen, alone, marked}
use Rattle.judge.specs.Literals.{Looking, on, off, span, claim, look_alike, look_fields, look_found, look_at, drain, literal_look}
use Rattle.judge.specs.Literals.{is_literal, node_look, then_look}

-- ---- the words that are found
present_fits : (cells : List ℕ) (n j address more : ℕ) → present cells n j address more ≡ true → j + more < n
unfolding present
present_fits cells n j address more = go (ltb more (n - j)) _ (ltb-true more (n - j))
  where
    go : (t u : Bool) → (t ≡ true → more < n - j) → both t u ≡ true → j + more < n
    go true u f e = omega (arith, f refl)
    go false u f e = absurd (as_true e)

-- the `more` words behind the entry that is found are in the table
pub covered_fits : (cells : List ℕ) (address more j : ℕ) → covered cells address more ≡ Some j → j + more < entries cells
unfolding covered
covered_fits cells address more j =
    let i : ℕ = place cells (entries cells) address in
    choose_told (λ (o : Option ℕ). o ≡ Some j → j + more < entries cells) (present cells (entries cells) i address more) (λ _. Some i) (λ _. None)
    (λ t e. let s : i ≡ j = cc in rw s at (present_fits cells (entries cells) i address more t))
    (λ _ e. absurd (none-some j e))

-- what isn't a struct has fewer than 65,536 words
pub few_words : (structs : List ℕ) (value code : ℕ) → (code_tag code ≡ 2 → ⊥) → span structs value code < 65536
unfolding span size_at
few_words structs value code n =
    choose_case (λ k. k < 65536) (eqb value 0) _ _ (omega arith)
    (choose_case (λ k. k < 65536) (code_checked code) _ _
    (choose_case (λ k. k < 65536) (eqb (code_tag code) 1) _ _ (omega arith)
    (rw (ne_eqb (code_tag code) 2 n)
    (choose_case (λ k. k < 65536) (eqb (code_tag code) 3) _ _ (omega arith) (omega arith))))
    (omega arith))

-- ---- the queue
-- from s to s': the queue is as long as it was, and ends within it if it did
pub record KeepsQueue (s s' : Seen) : Type 0 where
  pub long : length s'.queue ≡ length s.queue
  pub ends : s.tail ≤ length s.queue → s'.tail ≤ length s'.queue

keeps_none : (s : Seen) → KeepsQueue s s
keeps_none s = record { long = refl; ends = λ h. h }

keeps_then : {s s' s'' : Seen} → KeepsQueue s s' → KeepsQueue s' s'' → KeepsQueue s s''
keeps_then k l = record { long = l.long ∙ k.long; ends = λ h. l.ends (k.ends h) }

keeps_marked : (code reach j : ℕ) (s : Seen) → KeepsQueue s (marked code reach j s)
unfolding marked
keeps_marked code reach j s =
    choose_case (KeepsQueue s) (eqb (get_or s.marks j 0) 0) _ (λ _. s)
    (choose_case (KeepsQueue s) (code_checked code) _ (λ _. seen (set s.marks j reach) s.queue s.tail)
    (choose_told (KeepsQueue s) (ltb s.tail (length s.queue))
    (λ _. seen (set s.marks j reach) (set s.queue s.tail j) (s.tail + 1)) (λ _. s)
    (λ t. record { long = simp length-set; ends = λ _. simp length-set (omega (arith, ltb-true s.tail (length s.queue) t)) })
    (λ _. keeps_none s))
    (record { long = refl; ends = λ h. h }))
    (keeps_none s)

-- what is seen behind a look keeps it so
pub data After (s : Seen) : Looking → Type 0 where
  after_on : {s' : Seen} → KeepsQueue s s' → After s (on s')
  after_off : {marks queue : List ℕ} → After s (off marks queue)

more_after : {s s' : Seen} → KeepsQueue s s' → (l : Looking) → After s' l → After s l
more_after k (on s'') (after_on l) = after_on (keeps_then k l)
more_after k (off marks queue) after_off = after_off

then_after : {s : Seen} (l : Looking) (go : Seen → Looking) → After s l → ((s' : Seen) → After s' (go s')) → After s (then_look l go)
then_after (on s') go (after_on k) f = more_after k (go s') (f s')
then_after (off marks queue) go after_off f = after_off

alike_after : (cells : List ℕ) (code deep left j : ℕ) (s : Seen) → After s (look_alike cells code deep left j s)
unfolding look_alike
alike_after cells code zero left j s = after_on (keeps_none s)
alike_after cells code (suc deep) left j s =
    choose_case (After s) (ltb 0 left) _ (λ _. on s)
    (choose_case (After s) (eqb (entry_at cells j 2) code) _ (λ _. off s.marks s.queue)
    (choose_case (After s) (eqb (get_or s.marks j 0) 0) _ _
    (more_after (keeps_marked code left j s) _ (alike_after cells code deep (left - 1) (j + 1) (marked code left j s)))
    (choose_case (After s) (leb left (get_or s.marks j 0)) (λ _. on s) _
    (after_on (keeps_none s))
    (more_after (record { long = refl; ends = λ h. h }) _
    (alike_after cells code deep (left - get_or s.marks j 0) (j + get_or s.marks j 0) (seen (set s.marks j left) s.queue s.tail)))))
    after_off)
    (after_on (keeps_none s))

module _ (structs types cells : List ℕ) where
  fields_after : (code first left i : ℕ) (s : Seen) → After s (look_fields structs types cells code first left i s)
  unfolding look_fields
  fields_after code first zero i s = after_on (keeps_none s)
  fields_after code first (suc left) i s =
      choose_case (After s) (eqb (entry_at cells (first + i) 2) (claim structs types code i)) _ (λ _. off s.marks s.queue)
      (more_after (keeps_marked (claim structs types code i) alone (first + i) s) _
      (fields_after code first left (i + 1) (marked (claim structs types code i) alone (first + i) s)))
      after_off

  found_after : (found : Option ℕ) (code count : ℕ) (s : Seen) → After s (look_found structs types cells found code count s)
  found_after (Some j) code count s =
      choose_case (After s) (eqb (code_tag code) 2) (λ _. look_fields structs types cells code j count 0 s)
      (λ _. look_alike cells (claim structs types code 0) count count j s)
      (fields_after code j count 0 s)
      (alike_after cells (claim structs types code 0) count count j s)
  found_after None code count s = after_off

  pub look_after : (value code : ℕ) (s : Seen) → After s (look_at structs types cells value code s)
  unfolding look_at
  look_after value code s =
      let k : ℕ = span structs value code in
      choose_case (After s) (eqb k 0) (λ _. on s) _ (after_on (keeps_none s)) (found_after (covered cells value (k - 1)) code k s)

  pub drain_after : (deep head : ℕ) (s : Seen) → After s (drain structs types cells deep head s)
  unfolding drain
  drain_after zero head s = after_on (keeps_none s)
  drain_after (suc deep) head s =
      choose_case (After s) (ltb head s.tail)
      (λ _. then_look (look_at structs types cells (entry_at cells (get_or s.queue head 0) 1) (entry_at cells (get_or s.queue head 0) 2) s)
      (drain structs types cells deep (head + 1)))
      (λ _. on s)
      (then_after _ _ (look_after _ _ s) (drain_after deep (head + 1)))
      (after_on (keeps_none s))

  pub literal_after : (value code : ℕ) (s : Seen) → After s (literal_look structs types cells value code s)
  unfolding literal_look
  literal_after value code s = then_after _ _ (look_after value code s) (drain_after (length s.queue) s.tail)

  pub node_after : (nodes : List ℕ) (i : ℕ) (s : Seen) → After s (node_look structs types cells nodes i s)
  unfolding node_look
  node_after nodes i s =
      choose_case (After s) (is_literal (operation_at nodes i)) (λ _. literal_look structs types cells (node_number nodes i 1) (node_number nodes i 2) s) (λ _. on s)
      (literal_after (node_number nodes i 1) (node_number nodes i 2) s)
      (after_on (keeps_none s))

-- the answer's queue ends within it
pub ends_within : (s s' : Seen) (l : Looking) → After s l → on s' ≡ l → s.tail ≤ length s.queue → s'.tail ≤ length s'.queue
ends_within s s' l a e h = go (rw (← e) at a)
  where
    go : After s (on s') → s'.tail ≤ length s'.queue
    go (after_on k) = k.ends h
