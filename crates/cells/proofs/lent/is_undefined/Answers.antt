-- `cells::lent::is_undefined` says whether the word at the address is undefined. Assumes nothing.
use Rattle.std.proofs.Common.{sym}
use Rattle.cells.proofs.Words.{undefined_number}
use Rattle.cells.proofs.lent.is_undefined.Goals as goal

pub returns : goal.returns
returns c = rw c.code_at.ensures (sym (undefined_number _ _))
