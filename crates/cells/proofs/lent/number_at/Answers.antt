-- `cells::lent::number_at` gives a number of the word at an address. Assumes nothing.
use Rattle.std.proofs.Common.{sym, arith}
use Rattle.cells.proofs.Words.{number_here, number_none}
use Rattle.cells.proofs.lent.number_at.Goals as goal

pub returns-then-place-heap : goal.returns-then-place-heap
returns-then-place-heap c = sym (number_here _ _ _ _ (omega (arith, c.wrapping_sub_usize-place.ensures)) c.if-place-heap.true)

pub returns-else-place-heap : goal.returns-else-place-heap
returns-else-place-heap c = sym (number_none _ _ _ (λ p. omega (arith, p, c.wrapping_sub_usize-place.ensures, c.if-place-heap.false)))
