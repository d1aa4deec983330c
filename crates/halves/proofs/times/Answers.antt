-- `halves::times` meets its contract.
-- Assumes nothing.
use mathlib.Core.Path.{ap₂, ◌∙◌}
use lib.Ieee.{binary64, mul}
use Rattle.halves.proofs.Laws.{mul-half}
use Rattle.halves.proofs.times.Goals as goal

pub returns : goal.returns
returns c x y p q few = ap₂ (mul binary64) p q ∙ mul-half x y few
