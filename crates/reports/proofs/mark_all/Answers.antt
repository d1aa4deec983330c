-- `reports::mark_all` meets its contract.
-- Assumes nothing.
use Rattle.ground.proofs.Laid.{laid_filled}
use Rattle.reports.proofs.mark_all.Goals as goal

pub returns : goal.returns
returns c = laid_filled _ _ _ (c.fill.ensures.after (λ y e. e)) c.requires
