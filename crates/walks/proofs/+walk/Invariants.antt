-- `walks::walk` meets its contract: the measure is the number of X's of the node.
-- Assumes nothing.
use Rattle.nodes.specs.Node.{count_x}
use Rattle.walks.proofs.+walk.Given as goal

abbrev pub decreases-walk : goal.decreases-walk
decreases-walk l = count_x l.node.now
