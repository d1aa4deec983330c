-- `lanes::same_lanes` meets its contract: every bit of one word is set, and none of the other.
-- Assumes nothing.
use mathlib.Core.Path.{◌≡◌, refl}
use native.Mathlib.Omega.{arith}
use Rattle.lanes.specs.Lanes.{lanes_of}
use Rattle.lanes.proofs.same_lanes.Goals as goal

pub returns-then-value-eq1 : goal.returns-then-value-eq1
unfolding lanes_of
returns-then-value-eq1 c = rw c.if-value-eq1.true refl

pub returns : goal.returns
unfolding lanes_of
returns c = let e : c.args.value ≡ 0 = omega arith in rw e refl
