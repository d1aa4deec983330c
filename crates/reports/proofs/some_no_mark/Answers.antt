-- `reports::some_no_mark` meets its contract: the first byte that is no mark decides.
-- Assumes nothing.
use Rattle.std.proofs.Common.{rules}
use borrow.Author.Tests.{tests}
use Rattle.ground.proofs.Search.{any_over}
use Rattle.reports.specs.Marks.{no_mark}
use Rattle.reports.proofs.some_no_mark.Goals as goal

pub returns : goal.returns
unfolding no_mark
returns c = any_over _ _ _ _ c.any.ensures.ran (λ x q k l. search (rules, tests)) (λ x q k. search (rules, tests))
