-- `image::nodes::NodeReader::read_node` reads a node with its parts into the table, as `node_into` says. The measure is the depth that is left,
-- which falls at every call.
use Rattle.image.proofs.nodes.NodeReader.+read_node.Given as goal

abbrev pub decreases-read_node : goal.decreases-read_node
decreases-read_node l = l.depth
