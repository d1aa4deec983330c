-- `lane_entries::compare` meets its contract, lane by lane.
-- Assumes nothing.
use Rattle.lane_entries.proofs.Compared.{compared}
use Rattle.lane_entries.proofs.compare.Goals as goal

pub returns : goal.returns
returns c = compared
