-- `inspect::first_spare` meets its contract.
-- Assumes nothing.
use Rattle.std.proofs.Common.{rules, tests}
use Rattle.ground.proofs.Search.{find_over}
use Rattle.inspect.proofs.first_spare.Goals as goal

pub returns : goal.returns
returns c = find_over _ _ _ _ c.find.ensures.ran (λ x q k l. search (rules, tests)) (λ x q k. search (rules, tests))
