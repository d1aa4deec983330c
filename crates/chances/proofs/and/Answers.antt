-- `chances::and` meets its contract.
-- Assumes nothing.
use mathlib.Core.Bool.{true}
use Rattle.chances.proofs.Pins.{together}
use Rattle.chances.proofs.and.Goals as goal

pub returns : goal.returns
returns c = λ e f p q. record {
  one = c.times.ensures _ _ p.are.one q.are.one (together p q true true);
  zero = c.larger.ensures _ _ p.are.zero q.are.zero;
}
