-- The measure of `side` is the number of X's of the node.
-- Assumes nothing.
use Rattle.nodes.specs.Node.{count_x}
use Rattle.sides.proofs.+side.Given as goal

abbrev pub decreases-side : goal.decreases-side
decreases-side l = count_x l.node.now
