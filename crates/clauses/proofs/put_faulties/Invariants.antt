-- `clauses::put_faulties` meets its contract. The invariant: the lines below k have been written.
-- Assumes nothing.
use Rattle.clauses.proofs.Loops.{SoFar}
use Rattle.line_clauses.specs.Clauses.{faulty_clauses}
use Rattle.clauses.proofs.put_faulties.Given as goal

abbrev pub invariant-loop-k : goal.invariant-loop-k
invariant-loop-k l = SoFar (faulty_clauses l.circuit l.fault l.n) l.n l.initial.words l.at l.words l.next l.k
