-- `records::mark_outputs` meets its contract. The invariant: the first outputs are marked.
-- Assumes nothing.
use Rattle.records.proofs.Marking.{MarkedTo}
use Rattle.records.proofs.mark_outputs.Given as goal

abbrev pub invariant-loop-x : goal.invariant-loop-x
invariant-loop-x l = MarkedTo l.outputs l.initial.flag l.flag l.x-index
