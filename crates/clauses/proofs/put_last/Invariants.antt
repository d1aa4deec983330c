-- `clauses::put_last` meets its contract. The invariant: j literals have been written.
-- Assumes nothing.
use Rattle.clauses.proofs.Loops.{LastSoFar}
use Rattle.clauses.proofs.put_last.Given as goal

abbrev pub invariant-loop-j : goal.invariant-loop-j
invariant-loop-j l = LastSoFar l.n l.outputs l.initial.words l.at l.words l.j
