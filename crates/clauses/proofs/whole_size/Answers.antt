-- `clauses::whole_size` meets its contract. The invariant: what the lines below k take, good and faulty.
-- Assumes nothing.
use Rattle.clauses.proofs.Sizes.{size_none, size_more, whole_takes}
use Rattle.clauses.proofs.whole_size.Goals as goal

pub loop-k-init : goal.loop-k-init
loop-k-init c = size_none _ _ _

pub line_size-line-requires : goal.line_size-line-requires
line_size-line-requires c = record { circuit = c.requires.circuit; inside = c.loop-k-test.true }

pub loop-k-preserved : goal.loop-k-preserved
loop-k-preserved c = size_more c.loop-k.invariant c.loop-k-test.true c.line_size-line.ensures

pub returns : goal.returns
returns c = whole_takes c.loop-k.invariant c.loop-k-test.false c.requires.outputs_are
