-- `cells::lent::store` leaves the numbers after the word at an address was made to hold the cell. Assumes nothing.
use Rattle.cells.specs.Lent.{stored}
use Rattle.cells.proofs.lent.store.Goals as goal

pub returns : goal.returns
unfolding stored
returns c = rw (c.put_word.ensures, c.into.ensures)
