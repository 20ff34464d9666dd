-- `judge::nodes::judge_node` and `judge::nodes::judge_access` give what the judge says of a node, as a whole and as the pointer of an access.
-- The nodes that remain fall: the measure is 2·left for the node judge, and 2·left + 1 for the access judge, which may hand the same
-- node on. Assumes nothing.
use Rattle.std.proofs.Common.{◌+◌, ◌*◌}
use Rattle.judge.proofs.nodes.+judging.Given as goal

abbrev pub decreases-judge_access : goal.decreases-judge_access
decreases-judge_access l = 2 * l.left + 1

abbrev pub decreases-judge_node : goal.decreases-judge_node
decreases-judge_node l = 2 * l.left
