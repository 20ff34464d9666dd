-- The goals of `codlinbell::heap::place_cells` that the check leaves.
use Rattle.std.proofs.Common.{◌≡◌, ℕ, suc, ◌+◌, ◌-◌, ◌*◌, ◌/◌, ◌<◌, List, length, get_or, sym, ◌∙◌, arith}
use native.Mathlib.Numerals.{add-one}
use Rattle.cells.specs.Lent.{put_word}
use Rattle.codlinbell.specs.Placing.{rows_stored}
use Rattle.codlinbell.proofs.heap.place_cells.Goals as goal

-- the next row
turn : (rows heap : List ℕ) (count j : ℕ) → j < count
    → rows_stored rows (count - j) j heap
    ≡ rows_stored rows (count - (j + 1)) (j + 1) (put_word heap (get_or rows (3 * j) 0) (get_or rows (3 * j + 1) 0) (get_or rows (3 * j + 2) 0))
unfolding rows_stored
turn rows heap count j h = let left : count - j ≡ suc (count - (j + 1)) = omega arith in rw (left, add-one j)

pub loop-j-preserved : goal.loop-j-preserved
loop-j-preserved c =
    let inv = c.loop-j.invariant in
    record {
      long = c.put_word.auto.heap ∙ inv.long;
      same = inv.same ∙ turn _ _ _ _ (omega arith) ∙ rw c.put_word.ensures;
    }

pub returns : goal.returns
unfolding rows_stored
returns c =
    let none : length c.args.rows.now / 3 - c.loop-j.j ≡ 0 = omega arith in
    sym (c.loop-j.invariant.same ∙ rw none)
