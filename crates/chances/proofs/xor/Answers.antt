-- `chances::xor` meets its contract.
-- Assumes nothing.
use mathlib.Core.Bool.{true, false}
use Rattle.chances.proofs.Pins.{together}
use Rattle.chances.proofs.xor.Goals as goal

pub returns : goal.returns
returns c = λ e f p q. record {
  one = c.larger_product.ensures _ _ _ _ p.are.zero q.are.one p.are.one q.are.zero (together p q false true) (together p q true false);
  zero = c.larger_product-2.ensures _ _ _ _ p.are.zero q.are.zero p.are.one q.are.one (together p q false false) (together p q true true);
}
