-- `nodes::first_x` meets its contract.
-- Assumes nothing.
use Rattle.std.proofs.Common.{eqb, not, rules, tests}
use Rattle.ground.proofs.Search.{position_along, unwrap_first}
use Rattle.nodes.specs.Node.{first_x}
use Rattle.nodes.proofs.first_x.Goals as goal

pub returns : goal.returns
unfolding first_x
returns c =
    let h = position_along (λ x. not (eqb x 2)) _ _ _ c.iter.ensures.rest c.position.ensures.ran (λ x q k. search (rules, tests)) (λ x q k. search (rules, tests)) in
    rw (c.unwrap_or.ensures, h) (unwrap_first _ _)
