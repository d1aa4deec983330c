-- `compact::drop_spare` meets its contract. The invariant: the turns of the first patterns are left, and the counts are those of the set.
-- Assumes nothing.
use Rattle.compact.proofs.Turns.{ToGo}
use Rattle.compact.proofs.drop_spare.Given as goal

abbrev pub invariant-loop-p : goal.invariant-loop-p
invariant-loop-p l = ToGo l.table l.faults l.patterns l.seen l.initial.counts l.initial.marks l.p l.counts l.marks
