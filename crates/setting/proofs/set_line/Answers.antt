-- `setting::set_line` meets its contract: a bound line puts nothing, a free one what its pins need.
-- Assumes nothing.
use Rattle.setting.proofs.Lines.{line-bound, line-free}
use Rattle.setting.proofs.set_line.Goals as goal

pub returns-else-marks-k-ne2 : goal.returns-else-marks-k-ne2
returns-else-marks-k-ne2 c =
    line-bound c.args.want.now c.requires.1 c.requires.2 c.if-marks-k-ne2.false

pub returns-then-marks-k-ne2 : goal.returns-then-marks-k-ne2
returns-then-marks-k-ne2 c =
    line-free c.args.want.now c.requires.1 c.requires.2 c.if-marks-k-ne2.true c.put_pins.ensures
