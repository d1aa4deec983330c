-- `letters::mark_letter` meets its contract: one answer for each branch.
-- Assumes nothing.
use Rattle.std.proofs.Common.{arith, tests}
use Rattle.letters.specs.Text.{mark_of}
use Rattle.letters.proofs.mark_letter.Goals as goal

pub returns-then-mark-eq1 : goal.returns-then-mark-eq1
unfolding mark_of
returns-then-mark-eq1 c = grind (arith, tests)

pub returns-else-mark-eq1 : goal.returns-else-mark-eq1
unfolding mark_of
returns-else-mark-eq1 c = grind (arith, tests)
