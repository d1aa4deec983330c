-- `control::fill_sized` meets its contract: an accepted circuit has at most 2,048 lines.
-- Assumes nothing.
use native.Mathlib.Omega.{arith}
use Rattle.control.proofs.Answer.{few_lines}
use Rattle.control.proofs.fill_sized.Goals as goal

pub fill_with-requires-else-n-le128 : goal.fill_with-requires-else-n-le128
fill_with-requires-else-n-le128 c = let p = c.requires in (few_lines p, omega arith, p)
