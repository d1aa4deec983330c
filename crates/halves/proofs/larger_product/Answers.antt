-- `halves::larger_product` meets its contract.
-- Assumes nothing.
use Rattle.halves.proofs.larger_product.Goals as goal

pub returns : goal.returns
returns c = λ x y z w p q r s few few₂. c.larger.ensures _ _ (c.times.ensures x y p q few) (c.times-2.ensures z w r s few₂)
