-- `walks::end_all` meets its contract. The invariant: the reaches passed have become outcomes.
-- Assumes nothing.
use Rattle.walks.proofs.Reaches.{SoFar}
use Rattle.walks.proofs.end_all.Given as goal

abbrev pub invariant-loop-reach : goal.invariant-loop-reach
invariant-loop-reach l = SoFar l.initial.reaches l.reaches l.reach-index
