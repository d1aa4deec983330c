-- `gates::digit` meets its contract: the shifts are those of the definition.
-- Assumes nothing.
use mathlib.Core.Path.{refl}
use Rattle.gates.specs.Owed.{digit_of}
use Rattle.gates.proofs.digit.Goals as goal

pub returns : goal.returns
unfolding digit_of
returns c = refl
