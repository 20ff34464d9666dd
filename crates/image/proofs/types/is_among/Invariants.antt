-- `image::types::is_among` says whether the code is among the first codes of the table: it was found exactly if it is among those that
-- were passed. Assumes nothing.
use mathlib.Core.Path.{◌≡◌}
use lib.ListN.{take}
use Rattle.image.specs.Tabling.{among}
use Rattle.image.proofs.types.is_among.Given as goal

abbrev pub invariant-loop-i : goal.invariant-loop-i
invariant-loop-i l = l.found ≡ among l.code (take l.i l.types)
