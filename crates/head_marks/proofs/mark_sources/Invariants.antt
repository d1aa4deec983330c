-- `head_marks::mark_sources` meets its contract: one pin after the other.
-- Assumes nothing.
use Rattle.head_marks.proofs.Pins.{Sources}
use Rattle.head_marks.proofs.mark_sources.Given as goal

abbrev pub invariant-loop-s : goal.invariant-loop-s
invariant-loop-s l = Sources l.circuit l.k l.s-end l.initial.marks l.marks l.s
