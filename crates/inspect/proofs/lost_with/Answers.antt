-- `inspect::lost_with` meets its contract: f makes no lost pair with itself or a lower fault.
-- Assumes nothing.
use Rattle.std.proofs.Common.{ap, not, sym, rules, tests}
use Rattle.ground.proofs.Search.{find_from}
use Rattle.inspect.proofs.Pairs.{none_up_to}
use Rattle.inspect.proofs.lost_with.Goals as goal

pub returns : goal.returns
returns c =
    find_from _ _ _ _ _ (λ g l. ap not (sym (none_up_to _ _ _ _ _ l))) c.find.ensures.ran (λ x q k a b. search (rules, tests))
    (λ x q k. search (rules, tests))
