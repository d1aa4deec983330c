-- `counts::sole_in` meets its contract. The invariant: r says whether it is at one of the first f places.
-- Assumes nothing.
use borrow.Author.Rules.{rules}
use Rattle.ground.proofs.Below.{none_some, some_more, some-all}
use Rattle.counts.proofs.sole_in.Goals as goal

pub loop-f-init : goal.loop-f-init
loop-f-init c = none_some _ _

pub sole-r-requires : goal.sole-r-requires
sole-r-requires c = c.requires.notes.bit _ (search rules)

pub loop-f-preserved : goal.loop-f-preserved
loop-f-preserved c = some_more c.loop-f.invariant (search rules) c.sole-r.ensures

pub returns : goal.returns
returns c = some-all c.loop-f.invariant (search rules)
