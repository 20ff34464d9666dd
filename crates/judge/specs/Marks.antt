-- Marks of the cell table's entries, and the queue of marked entries.
use Rattle.std.specs.Prelude.{ℕ, ◌+◌, List, eqb, ltb, length, get_or, set}
use Rattle.choice.specs.Choice.{choose}
use Rattle.tables.specs.Kinds.{code_checked}

-- For each entry that was seen its reach, which is not 0: so many entries from it on were seen and have its code. In the queue those of
-- them that can need others, in the order in which they were seen; and where it ends.
pub record Seen : Type 0 where
  pub marks : List ℕ
  pub queue : List ℕ
  pub tail : ℕ

abbrev pub seen : List ℕ → List ℕ → ℕ → Seen
seen marks queue tail = record { marks = marks; queue = queue; tail = tail }

-- the reach of a field's mark: the field behind it may have another code
abbrev pub alone : ℕ
alone = 1

-- entry j, of this code, is seen: marked with this reach, and put into the queue unless words of its code never need others. Nothing
-- happens if it is marked already or the queue is full.
unfoldable pub marked : (code reach j : ℕ) → Seen → Seen
marked code reach j s =
    choose (eqb (get_or s.marks j 0) 0)
    (λ _. choose (code_checked code)
    (λ _. choose (ltb s.tail (length s.queue)) (λ _. seen (set s.marks j reach) (set s.queue s.tail j) (s.tail + 1)) (λ _. s))
    (λ _. seen (set s.marks j reach) s.queue s.tail))
    (λ _. s)
