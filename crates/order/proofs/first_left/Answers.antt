-- `order::first_left` meets its contract: it looks for a mark that is not 1.
-- Assumes nothing.
use Rattle.std.proofs.Common.{rules}
use borrow.Author.Tests.{tests}
use lib.Dec.{eqb}
use Prim.Native.Nat.{ℕ}
use Rattle.ground.proofs.Search.{position_along}
use Rattle.order.proofs.first_left.Goals as goal

pub returns : goal.returns
returns c =
    position_along (λ (m : ℕ). eqb m 1) _ _ _ c.iter.ensures.rest c.position.ensures.ran
    (λ x q k. search (rules, tests)) (λ x q k. search (rules, tests))
