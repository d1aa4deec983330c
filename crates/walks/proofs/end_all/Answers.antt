-- `walks::end_all` meets its contract. The invariant: the reaches passed have become outcomes.
-- Assumes nothing.
use native.Mathlib.Omega.{arith}
use Rattle.walks.proofs.Reaches.{ended_more}
use Rattle.walks.proofs.end_all.Goals as goal

pub loop-reach-preserved : goal.loop-reach-preserved
loop-reach-preserved c = ended_more c.loop-reach.invariant (omega arith) c.outcome_by.ensures
