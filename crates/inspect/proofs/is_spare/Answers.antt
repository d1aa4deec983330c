-- `inspect::is_spare` meets its contract: a kept pattern by the counts.
-- Assumes nothing.
use Rattle.std.proofs.Common.{ne_eqb}
use Rattle.inspect.proofs.Spare.{dropped-spare, kept-spare}
use Rattle.inspect.proofs.is_spare.Goals as goal

pub returns-then-marks-p-eq1 : goal.returns-then-marks-p-eq1
returns-then-marks-p-eq1 c = kept-spare c.requires.0 _ c.requires.1 c.if-marks-p-eq1.true c.needed.ensures

pub returns-else-marks-p-eq1 : goal.returns-else-marks-p-eq1
returns-else-marks-p-eq1 c = rw (ne_eqb _ _ c.if-marks-p-eq1.false) (dropped-spare c.requires.0 _ c.if-marks-p-eq1.false)
