-- `reads::count_reads` meets its contract: one line after the other, from nothing counted on.
-- Assumes nothing.
use Rattle.reads.proofs.Counted.{Lines}
use Rattle.reads.proofs.count_reads.Given as goal

abbrev pub invariant-loop-j : goal.invariant-loop-j
invariant-loop-j l = Lines l.circuit l.initial.reads l.reads l.j
