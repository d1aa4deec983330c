-- `lanes::chosen` meets its contract: a value by the select, or where both sources have it.
-- Assumes nothing.
use Rattle.lanes.proofs.Values.{select_lanes}
use Rattle.lanes.proofs.chosen.Goals as goal

pub returns : goal.returns
returns c = select_lanes
