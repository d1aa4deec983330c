-- `answers::first_big` meets its contract.
-- Assumes nothing.
use Rattle.std.proofs.Common.{leb, rules, tests}
use Rattle.ground.proofs.Search.{position_along, unwrap_first}
use Rattle.answers.specs.Small.{small_ok}
use Rattle.answers.proofs.first_big.Goals as goal

pub returns : goal.returns
unfolding small_ok
returns c =
    let h = position_along (λ x. leb x 2) _ _ _ c.iter.ensures.rest c.position.ensures.ran (λ x q k. search (rules, tests)) (λ x q k. search (rules, tests)) in
    rw (c.unwrap_or.ensures, h) (unwrap_first _ _)
