-- `lanes::odd` meets its contract: 1 where one is 1 and the other 0, 0 where they are the same.
-- Assumes nothing.
use Rattle.lanes.proofs.Values.{xor_lanes}
use Rattle.lanes.proofs.odd.Goals as goal

pub returns : goal.returns
returns c = xor_lanes
