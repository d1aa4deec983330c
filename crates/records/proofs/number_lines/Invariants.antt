-- `records::number_lines` meets its contract. The invariant: the gates from i on have their lines.
-- Assumes nothing.
use Rattle.records.proofs.Numbering.{NumberedFrom}
use Rattle.records.proofs.number_lines.Given as goal

abbrev pub invariant-loop-i : goal.invariant-loop-i
invariant-loop-i l = NumberedFrom l.order l.inputs l.initial.line l.line l.i
