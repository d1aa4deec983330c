-- `reports::count_marks` meets its contract. The invariant: the marks passed are counted.
-- Assumes nothing.
use mathlib.Core.Path.{◌∙◌}
use native.Mathlib.Omega.{arith}
use Rattle.ground.proofs.Tests.{from_bool-one, from_bool_most}
use Rattle.ground.proofs.Counting.{no_sum, sum_small, sum_more, sum_all}
use Rattle.reports.specs.Marks.{marked}
use Rattle.reports.proofs.count_marks.Goals as goal

pub loop-f-init : goal.loop-f-init
loop-f-init c = no_sum _ _

pub overflow_add-count : goal.overflow_add-count
overflow_add-count c = omega (arith, sum_small c.loop-f.invariant, c.from-count.ensures, from_bool_most (marked c.args.marks.now c.loop-f.f))

pub loop-f-preserved : goal.loop-f-preserved
loop-f-preserved c = sum_more c.loop-f.invariant (omega arith) (c.from-count.ensures ∙ from_bool-one _)

pub returns : goal.returns
returns c = sum_all c.loop-f.invariant (omega arith)
