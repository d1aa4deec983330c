-- `counts::needed` meets its contract: by the row of the faults, and then the rows of pairs.
-- Assumes nothing.
use Rattle.std.proofs.Common.{rules, tests}
use Rattle.ground.proofs.Search.{any_over}
use Rattle.counts.proofs.Only.{needed_fault, needed_pair}
use Rattle.counts.proofs.needed.Goals as goal

pub returns-then-sole_in-ne0 : goal.returns-then-sole_in-ne0
returns-then-sole_in-ne0 c = needed_fault _ _ _ _ _ c.sole_in.ensures c.if-sole_in-ne0.true

pub returns-else-sole_in-ne0 : goal.returns-else-sole_in-ne0
returns-else-sole_in-ne0 c =
    needed_pair _ _ _ _ _ c.sole_in.ensures c.if-sole_in-ne0.false
    (any_over _ _ _ _ c.any.ensures.ran (λ x q k l. search (rules, tests)) (λ x q k. search (rules, tests)))
