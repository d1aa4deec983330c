-- `chances::or` meets its contract.
-- Assumes nothing.
use mathlib.Core.Bool.{false}
use Rattle.chances.proofs.Pins.{together}
use Rattle.chances.proofs.or.Goals as goal

pub returns : goal.returns
returns c = λ e f p q. record {
  one = c.larger.ensures _ _ p.are.one q.are.one;
  zero = c.times.ensures _ _ p.are.zero q.are.zero (together p q false false);
}
