-- `reports::count_marks` meets its contract. The invariant: the marks passed are counted.
-- Assumes nothing.
use Rattle.ground.proofs.Counting.{Sum}
use Rattle.reports.specs.Marks.{marked}
use Rattle.reports.proofs.count_marks.Given as goal

abbrev pub invariant-loop-f : goal.invariant-loop-f
invariant-loop-f l = Sum (marked l.marks) l.n l.f l.count
