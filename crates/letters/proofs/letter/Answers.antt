-- `letters::letter` meets its contract: one answer for each branch.
-- Assumes nothing.
use Rattle.std.proofs.Common.{arith, tests}
use Rattle.letters.specs.Text.{letter_of}
use Rattle.letters.proofs.letter.Goals as goal

pub returns-in-0 : goal.returns-in-0
unfolding letter_of
returns-in-0 c = grind (arith, tests)

pub returns-in-1 : goal.returns-in-1
unfolding letter_of
returns-in-1 c = grind (arith, tests)

pub returns-in_default : goal.returns-in_default
unfolding letter_of
returns-in_default c = grind (arith, tests)
