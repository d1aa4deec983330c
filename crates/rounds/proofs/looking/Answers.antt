-- `rounds::looking` meets its contract.
-- Assumes nothing.
use Rattle.std.proofs.Common.{leb, rules, tests}
use Rattle.ground.proofs.Search.{count_along}
use Rattle.rounds.proofs.looking.Goals as goal

pub returns : goal.returns
returns c =
    count_along (λ x. leb c.args.level x) c.filter.ensures.source c.filter.ensures.closure c.count.ensures.ran (λ x r q k. search (rules, tests))
    c.args.reaches.now c.iter.ensures.rest
