-- The literal check as the code goes about it: a literal's words are looked for and marked, what was marked is looked at in turn, and
-- the pass ends at the first literal that is off.
use Rattle.std.specs.Prelude.{ℕ, zero, suc, ◌+◌, ◌-◌, ◌/◌, Bool, true, false, List, Option, Some, None, eqb, ltb, leb, length, get_or, set, replicate}
use Rattle.choice.specs.Choice.{choose}
use Rattle.calculus.specs.declared.Operation.{Operation}
use Rattle.calculus.specs.declared.Operation.TheVariants as op
use Rattle.tables.specs.Kinds.{code_checked, code_tag, size_at, type_code_at, word_type_at}
use Rattle.judge.specs.Rows.{node_number, operation_at, entry_at}
use Rattle.judge.specs.Addresses.{covered}
use Rattle.judge.specs.Marks.{Seen, seen, alone, marked}

-- what was seen, or the marks and the queue where a word was off
pub data Looking : Type 0 where
  on : Seen → Looking
  off : List ℕ → List ℕ → Looking

-- the code's answer with the lent lists: where the queue ends, or nothing
abbrev pub looking : Option ℕ → List ℕ → List ℕ → Looking
looking (Some tail) marks queue = on (seen marks queue tail)
looking None marks queue = off marks queue

abbrev pub then_look : Looking → (Seen → Looking) → Looking
then_look (on s) go = go s
then_look (off marks queue) go = off marks queue

-- how many words a literal needs: those that its target covers, if it is a checked pointer other than 0
unfoldable pub span : (structs : List ℕ) (value code : ℕ) → ℕ
span structs value code =
    choose (eqb value 0) (λ _. 0) λ _. choose (code_checked code) (λ _. size_at structs code) (λ _. 0)

-- the code that a pointer's i-th word has to have
abbrev pub claim : (structs types : List ℕ) (code i : ℕ) → ℕ
claim structs types code i = type_code_at types (word_type_at structs code i)

abbrev pub is_literal : Operation → Bool
is_literal op.Literal = true
is_literal op.Variable = false
is_literal op.Let = false
is_literal op.Malloc = false
is_literal op.Unchecked = false
is_literal op.Cast = false
is_literal op.Read = false
is_literal (op.Acts o) = false
is_literal op.Field = false
is_literal op.Unknown = false

-- the first of the literals that are off, or the count of nodes, and the lent lists
pub record Found : Type 0 where
  pub first : ℕ
  pub marks : List ℕ
  pub queue : List ℕ

abbrev pub found : ℕ → List ℕ → List ℕ → Found
found first marks queue = record { first = first; marks = marks; queue = queue }

-- go on with the next node, unless this one, i, is off
abbrev pub then_next : ℕ → Looking → (Seen → Found) → Found
then_next i (on s) go = go s
then_next i (off marks queue) go = found i marks queue

-- `left` entries from j on have this code: then they are seen. What a mark knows to be alike is passed over, and each mark that is met
-- reaches as far as the words do; at most `deep` are met.
unfoldable pub look_alike : (cells : List ℕ) (code deep left j : ℕ) → Seen → Looking
look_alike cells code zero left j s = on s
look_alike cells code (suc deep) left j s =
    choose (ltb 0 left)
    (λ _. choose (eqb (entry_at cells j 2) code)
    (λ _. choose (eqb (get_or s.marks j 0) 0) (λ _. look_alike cells code deep (left - 1) (j + 1) (marked code left j s)) λ _.
    choose (leb left (get_or s.marks j 0)) (λ _. on s) λ _.
    look_alike cells code deep (left - get_or s.marks j 0) (j + get_or s.marks j 0) (seen (set s.marks j left) s.queue s.tail))
    (λ _. off s.marks s.queue))
    (λ _. on s)

module _ (structs types cells : List ℕ) where
  -- `left` entries from `first` + i on have the codes that a pointer claims of its words from the i-th on: then they are seen
  unfoldable pub look_fields : (code first left i : ℕ) → Seen → Looking
  look_fields code first zero i s = on s
  look_fields code first (suc left) i s =
      choose (eqb (entry_at cells (first + i) 2) (claim structs types code i))
      (λ _. look_fields code first left (i + 1) (marked (claim structs types code i) alone (first + i) s))
      (λ _. off s.marks s.queue)

  -- `count` entries from `first` on are the words that a pointer needs: fields have each a code of its own, all else is alike
  abbrev pub look_words : (code first count : ℕ) → Seen → Looking
  look_words code first count s =
      choose (eqb (code_tag code) 2)
      (λ _. look_fields code first count 0 s)
      (λ _. look_alike cells (claim structs types code 0) count count first s)

  -- those words, if they were found
  abbrev pub look_found : Option ℕ → (code count : ℕ) → Seen → Looking
  look_found (Some first) code count s = look_words code first count s
  look_found None code count s = off s.marks s.queue

  -- the words that a literal needs are there and have the codes claimed: then they are seen
  unfoldable pub look_at : (value code : ℕ) → Seen → Looking
  look_at value code s =
      choose (eqb (span structs value code) 0) (λ _. on s) λ _.
      look_found (covered cells value (span structs value code - 1)) code (span structs value code) s

  -- the entries in the queue from `head` on are looked at, one after another, with those that join it; at most `deep` of them
  unfoldable pub drain : (deep head : ℕ) → Seen → Looking
  drain zero head s = on s
  drain (suc deep) head s =
      choose (ltb head s.tail)
      (λ _. then_look (look_at (entry_at cells (get_or s.queue head 0) 1) (entry_at cells (get_or s.queue head 0) 2) s) (drain deep (head + 1)))
      (λ _. on s)

  -- a literal and all that is reached from it
  unfoldable pub literal_look : (value code : ℕ) → Seen → Looking
  literal_look value code s = then_look (look_at value code s) (drain (length s.queue) s.tail)

  module _ (nodes : List ℕ) where
    -- node i, if it is a literal
    unfoldable pub node_look : ℕ → Seen → Looking
    node_look i s = choose (is_literal (operation_at nodes i)) (λ _. literal_look (node_number nodes i 1) (node_number nodes i 2) s) (λ _. on s)

    -- `left` nodes from i on
    unfoldable pub pass : (left i : ℕ) → Seen → Found
    pass zero i s = found i s.marks s.queue
    pass (suc left) i s = then_next i (node_look i s) (pass left (i + 1))

    -- the first literal that is off, or the count of nodes
    abbrev pub first_bad : List ℕ → List ℕ → Found
    first_bad marks queue = pass (length nodes / 4) 0 (seen (replicate (length marks) 0) queue 0)
