-- `cells::lent::cell_at` gives the word at an address. Assumes nothing.
use Rattle.std.proofs.Common.{sym}
use Rattle.cells.proofs.Words.{word_numbers}
use Rattle.cells.proofs.lent.cell_at.Goals as goal

pub returns : goal.returns
returns c = rw (c.as_word.ensures, c.value_at.ensures, c.code_at.ensures) (sym (word_numbers _ _))
