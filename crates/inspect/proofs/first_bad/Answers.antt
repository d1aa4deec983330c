-- `inspect::first_bad` meets its contract.
-- Assumes nothing.
use Rattle.std.proofs.Common.{ltb, not, rules, tests}
use Rattle.ground.proofs.Search.{position_along, unwrap_first}
use Rattle.inspect.proofs.first_bad.Goals as goal

pub returns : goal.returns
returns c =
    let h = position_along (λ x. not (ltb 1 x)) _ _ _ c.iter.ensures.rest c.position.ensures.ran (λ x q k. search (rules, tests)) (λ x q k. search (rules, tests)) in
    rw (c.unwrap_or.ensures, h) (unwrap_first _ _)
