-- `names::look_up` meets its contract: each name is looked for, and its number written.
-- Assumes nothing.
use Rattle.names.proofs.Loops.{Looking}
use Rattle.names.proofs.look_up.Given as goal

abbrev pub invariant-loop-u : goal.invariant-loop-u
invariant-loop-u l = Looking l.text l.defs l.numbers l.names l.out l.low l.lowest l.u
