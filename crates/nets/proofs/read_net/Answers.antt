-- `nets::read_net` meets its contract: refusal 16, or the records in the order of the gates.
-- Assumes nothing.
use Rattle.answers.proofs.Answer.{handed_on}
use Rattle.nets.proofs.Order.{ordered, unordered, read_ordered}
use Rattle.nets.proofs.read_net.Goals as goal

pub returns-in_err-arrange : goal.returns-in_err-arrange
returns-in_err-arrange c = rw (handed_on c.from_residual.ensures.1) (unordered c.arrange.ensures c.in_err-arrange.was)

pub read_order-requires : goal.read_order-requires
read_order-requires c = ordered c.requires.0 c.arrange.ensures c.in_ok-arrange.was

pub returns : goal.returns
returns c = read_ordered c.arrange.ensures c.in_ok-arrange.was c.read_order.ensures
