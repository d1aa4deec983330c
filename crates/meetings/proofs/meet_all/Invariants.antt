-- `meetings::meet_all` meets its contract. The invariant: the faults passed have come to the node, and the good values stand.
-- Assumes nothing.
use Rattle.meetings.proofs.Coming.{SoFar}
use Rattle.meetings.proofs.meet_all.Given as goal

abbrev pub invariant-loop-i : goal.invariant-loop-i
invariant-loop-i l =
    SoFar l.alone l.list.circuit.now l.list.faults.now l.list.budgets.now l.list.lines l.node l.level (l.initial.reaches, l.initial.counts, l.initial.tests) (l.reaches, l.counts, l.tests) l.initial.work l.work l.i
