-- `statements::put_defs` meets its contract: the lines are taken one after the other, and what defines a name stays.
-- Assumes nothing.
use Rattle.statements.proofs.Defining.{Defining}
use Rattle.statements.proofs.put_defs.Given as goal

abbrev pub invariant-loop-k : goal.invariant-loop-k
invariant-loop-k l = Defining l.words l.ends l.forms l.defs l.numbers l.g l.n l.d l.k
