-- `counts::sole` meets its contract: two tests as numbers and a note, joined by `&`.
-- Assumes nothing.
use Rattle.counts.proofs.Only.{sole_and}
use Rattle.counts.proofs.sole.Goals as goal

pub returns : goal.returns
returns c = sole_and _ _ _ _ c.from.ensures c.requires c.from-2.ensures
