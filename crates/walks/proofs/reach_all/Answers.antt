-- `walks::reach_all` meets its contract: both lists are filled.
-- Assumes nothing.
use mathlib.Core.Path.{refl}
use native.Mathlib.Omega.{arith}
use Rattle.walks.proofs.reach_all.Goals as goal

pub returns : goal.returns
returns c = λ j l. (c.fill.ensures.clones j 0 l refl, c.fill-2.ensures.clones j 0 (omega arith) refl)
