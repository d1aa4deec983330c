-- `lists::first_bad_fault` meets its contract: it looks for a record that keeps its layout no longer.
-- Assumes nothing.
use Rattle.std.proofs.Common.{rules}
use borrow.Author.Tests.{tests}
use Rattle.ground.proofs.Search.{find_over}
use Rattle.lists.proofs.first_bad_fault.Goals as goal

pub returns : goal.returns
returns c = find_over _ _ _ _ c.find.ensures.ran (λ x q k l. search (rules, tests)) (λ x q k. search (rules, tests))
