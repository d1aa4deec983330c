-- `unfold::mark_data` meets its contract. The invariant: the data lines of the records passed are marked.
-- Assumes nothing.
use Rattle.unfold.proofs.Marking.{MarkedTo}
use Rattle.unfold.proofs.mark_data.Given as goal

abbrev pub invariant-loop-r : goal.invariant-loop-r
invariant-loop-r l = MarkedTo l.states l.initial.marks l.marks l.r
