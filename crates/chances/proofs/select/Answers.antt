-- `chances::select` meets its contract.
-- Assumes nothing.
use mathlib.Core.Bool.{true, false}
use Rattle.chances.proofs.Pins.{together}
use Rattle.chances.proofs.select.Goals as goal

pub returns : goal.returns
returns c = λ e f g p q s. record {
  one = c.larger_product.ensures _ _ _ _ p.are.one s.are.zero q.are.one s.are.one (together p s true false) (together q s true true);
  zero = c.larger_product-2.ensures _ _ _ _ p.are.zero s.are.zero q.are.zero s.are.one (together p s false false) (together q s false true);
}
