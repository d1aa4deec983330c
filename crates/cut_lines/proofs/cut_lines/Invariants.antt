-- `cut_lines::cut_lines` meets its contract: two bytes of each line, one line after the other.
-- Assumes nothing.
use Rattle.cut_lines.proofs.Lines.{SoFar}
use Rattle.cut_lines.proofs.cut_lines.Given as goal

abbrev pub invariant-loop-k : goal.invariant-loop-k
invariant-loop-k l = SoFar l.circuit l.marks l.initial.lines l.lines l.k
