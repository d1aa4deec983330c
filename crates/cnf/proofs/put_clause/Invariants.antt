-- `cnf::put_clause` meets its contract. The invariant: the first i literals stand.
-- Assumes nothing.
use Rattle.ground.proofs.Put.{Partly}
use Rattle.cnf.proofs.put_clause.Given as goal

abbrev pub invariant-loop-i : goal.invariant-loop-i
invariant-loop-i l = Partly l.literals l.initial.words l.at l.words l.i
