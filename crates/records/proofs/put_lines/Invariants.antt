-- `records::put_lines` meets its contract. The invariant: the records of the lines below k are written.
-- Assumes nothing.
use Rattle.records.specs.Owed.{lined_seen}
use Rattle.records.proofs.Lines.{SoFar}
use Rattle.records.proofs.put_lines.Given as goal

abbrev pub invariant-loop-k : goal.invariant-loop-k
invariant-loop-k l = SoFar (lined_seen l.lined) l.initial.records l.records l.at l.k
