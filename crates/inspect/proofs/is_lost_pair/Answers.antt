-- `inspect::is_lost_pair` meets its contract: by its tests.
-- Assumes nothing.
use Rattle.std.proofs.Common.{arith, tests}
use Rattle.inspect.specs.Owed.{pair_in}
use Rattle.inspect.proofs.is_lost_pair.Goals as goal

pub returns-then-kept-pair-eq0 : goal.returns-then-kept-pair-eq0
unfolding pair_in
returns-then-kept-pair-eq0 c = grind (arith, tests)

pub returns-else-kept-pair-eq0 : goal.returns-else-kept-pair-eq0
unfolding pair_in
returns-else-kept-pair-eq0 c = grind (arith, tests)
