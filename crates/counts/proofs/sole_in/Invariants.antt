-- `counts::sole_in` meets its contract. The invariant: r says whether it is at one of the first f places.
-- Assumes nothing.
use Rattle.ground.proofs.Below.{Some}
use Rattle.counts.specs.Owed.{sole_in}
use Rattle.counts.proofs.sole_in.Given as goal

abbrev pub invariant-loop-f : goal.invariant-loop-f
invariant-loop-f l = Some (sole_in l.counts l.seen l.at l.table l.from l.want) l.faults l.f l.r
