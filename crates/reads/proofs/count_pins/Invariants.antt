-- `reads::count_pins` meets its contract: one pin after the other.
-- Assumes nothing.
use Rattle.reads.proofs.Counted.{Pins}
use Rattle.reads.proofs.count_pins.Given as goal

abbrev pub invariant-loop-s : goal.invariant-loop-s
invariant-loop-s l = Pins l.circuit l.j l.s-end l.initial.reads l.reads l.s
