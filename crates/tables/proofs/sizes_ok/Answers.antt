-- `tables::sizes_ok` meets its contract: by its tests.
-- Assumes nothing.
use Rattle.std.proofs.Common.{arith, tests}
use Rattle.tables.specs.Table.{sizes_ok}
use Rattle.tables.proofs.sizes_ok.Goals as goal

pub returns-then-in_range-2 : goal.returns-then-in_range-2
unfolding sizes_ok
returns-then-in_range-2 c = grind (arith, tests)

pub returns-else-in_range-2 : goal.returns-else-in_range-2
unfolding sizes_ok
returns-else-in_range-2 c = grind (arith, tests)
