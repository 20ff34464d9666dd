-- The depth that is left falls at every part: the measure is 3·depth for a node, 3·depth + 1 for a part, and 3·depth + 2 for a node from
-- behind its code on, whose depth is its parts'.
use Prim.Native.Nat.{◌+◌, ◌*◌}
use Rattle.reader.proofs.RowReader.+read_nodes.Given as goal

abbrev pub decreases-read_act : goal.decreases-read_act
decreases-read_act l = 3 * l.within.depth + 2

abbrev pub decreases-read_let : goal.decreases-read_let
decreases-read_let l = 3 * l.within.depth + 2

abbrev pub decreases-read_one : goal.decreases-read_one
decreases-read_one l = 3 * l.within.depth + 2

abbrev pub decreases-read_part : goal.decreases-read_part
decreases-read_part l = 3 * l.around.depth + 1

abbrev pub decreases-read_node : goal.decreases-read_node
decreases-read_node l = 3 * l.around.depth
