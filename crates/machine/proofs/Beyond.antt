-- "A longer lent heap is used for its first 4,096 words, the rest never changing": what stands behind the heap's words is as it was lent.
use Rattle.std.proofs.Common.{◌≡◌, ℕ, ◌*◌, List, [], ◌∷◌, length, drop, refl, ◌∙◌, arith, drop_at}
use Rattle.cells.specs.Heap.{Heap}
use Rattle.cells.specs.Lent.{numbers_of}
use Rattle.calculus.specs.Run.{Result}
use Rattle.calculus.specs.declared.Outcome.{Outcome}
use Rattle.machine.specs.Entry.{AsDefined}

length_numbers : (H : Heap) → length (numbers_of H) ≡ 2 * length H
unfolding numbers_of
length_numbers [] = refl
length_numbers (w ∷ H) = rw (length_numbers H) (omega arith)

pub beyond : {words : ℕ} {ws : List ℕ} {d : Result} {o : Outcome} {heap : List ℕ} → AsDefined words ws d o heap
    → drop (2 * words) heap ≡ drop (2 * words) ws
beyond {words} {ws} {d} a =
    rw (a.heap_held, a.heap_long)
    (drop_at (numbers_of d.heap) (drop (2 * words) ws) (2 * words) (length_numbers d.heap ∙ rw a.heap_long))
