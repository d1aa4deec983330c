-- `clauses::put_differences` meets its contract. The invariant: the lines below k have been written, and j of them are outputs.
-- Assumes nothing.
use Rattle.clauses.proofs.Loops.{SoFar}
use Rattle.line_clauses.specs.Clauses.{difference_clauses}
use Rattle.circuit.specs.Record.{is_output}
use Rattle.ground.proofs.Counting.{Sum}
use Rattle.clauses.proofs.put_differences.Given as goal

abbrev pub invariant-loop-k : goal.invariant-loop-k
invariant-loop-k l = SoFar (difference_clauses l.circuit l.n) l.n l.initial.words l.at l.words l.next l.k × Sum (is_output l.circuit) l.n l.k l.j
