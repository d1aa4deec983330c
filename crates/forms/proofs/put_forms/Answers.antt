-- `forms::put_forms` meets its contract: the lines are taken one after the other.
-- Assumes nothing.
use lib.Dec.{leb}
use Rattle.ground.proofs.Tests.{one_most}
use Rattle.ground.proofs.Counting.{sum_small}
use Rattle.forms.proofs.Forms.{start, next, finished}
use native.Mathlib.Omega.{arith}
use Rattle.forms.proofs.put_forms.Goals as goal

pub loop-k-init : goal.loop-k-init
loop-k-init c = start c.requires.0

pub overflow_add-gates : goal.overflow_add-gates
overflow_add-gates c = omega (arith, sum_small c.loop-k.invariant.counted, one_most (leb 3 c.form_of.result))

pub loop-k-preserved : goal.loop-k-preserved
loop-k-preserved c = next c.loop-k.invariant (omega arith) c.form_of.ensures c.from-gates.ensures

pub returns : goal.returns
returns c = finished c.loop-k.invariant (omega arith)
