-- `lanes::turned` meets its contract: the words change places, or stay.
-- Assumes nothing.
use Rattle.lanes.proofs.Values.{turned_lanes, as_they_are}
use Rattle.lanes.proofs.turned.Goals as goal

pub returns-then-turn : goal.returns-then-turn
returns-then-turn c = rw c.if-turn.true turned_lanes

pub returns : goal.returns
returns c = rw c.if-turn.false as_they_are
