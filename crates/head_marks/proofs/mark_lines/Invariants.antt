-- `head_marks::mark_lines` meets its contract: the readings are counted, then the lines have their turns in order.
-- Assumes nothing.
use Rattle.head_marks.proofs.Lines.{Turns}
use Rattle.head_marks.proofs.mark_lines.Given as goal

abbrev pub invariant-loop-k : goal.invariant-loop-k
invariant-loop-k l = Turns l.circuit l.reads l.initial.marks l.marks l.k
