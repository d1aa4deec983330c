-- `reports::narrow` meets its contract. The invariant: the first f marks stand.
-- Assumes nothing.
use lib.Dec.{eqb}
use lib.ListN.{length, get_or}
use Rattle.ground.specs.Choose.{choose}
use Rattle.ground.proofs.Laid.{Laying}
use Rattle.reports.proofs.narrow.Given as goal

abbrev pub invariant-loop-f : goal.invariant-loop-f
invariant-loop-f l = Laying (λ i. choose (eqb (get_or l.row i 0) l.bad) 0 (get_or l.marks i 0)) (length l.row) l.initial.after l.after l.f
