-- `tallies::tally` meets its contract. The invariant: the patterns below p that have the mark are tallied.
-- Assumes nothing.
use Rattle.tallies.specs.Tally.{with_mark}
use Rattle.tallies.proofs.Tallies.{TalliedTo}
use Rattle.tallies.proofs.tally.Given as goal

abbrev pub invariant-loop-p : goal.invariant-loop-p
invariant-loop-p l = TalliedTo l.table l.faults l.patterns (with_mark l.mark l.marks) l.initial.counts l.initial.seen l.p l.counts l.seen
