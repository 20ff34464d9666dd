-- `cells::lent::put_word` leaves the numbers after the word at an address was made to hold the value. Assumes nothing.
use Rattle.std.proofs.Common.{sym, arith}
use Rattle.cells.proofs.Words.{put_here, put_none}
use Rattle.cells.proofs.lent.put_word.Goals as goal

pub returns-then-i-heap : goal.returns-then-i-heap
returns-then-i-heap c = sym (put_here _ _ _ _ _ (omega (arith, c.wrapping_sub_usize-i.ensures)) c.if-i-heap.true)

pub returns-else-i-heap : goal.returns-else-i-heap
returns-else-i-heap c = sym (put_none _ _ _ _ (λ p. omega (arith, p, c.wrapping_sub_usize-i.ensures, c.if-i-heap.false)))
