-- `clauses::whole_size` meets its contract. The invariant: what the lines below k take, good and faulty.
-- Assumes nothing.
use Rattle.clauses.proofs.Sizes.{SizeSoFar}
use Rattle.clauses.proofs.whole_size.Given as goal

abbrev pub invariant-loop-k : goal.invariant-loop-k
invariant-loop-k l = SizeSoFar l.circuit l.fault l.n l.words l.clauses l.k
