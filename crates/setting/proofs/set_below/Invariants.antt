-- `setting::set_below` meets its contract: one line after the other, the highest first.
-- Assumes nothing.
use Rattle.setting.proofs.Lines.{Below}
use Rattle.setting.proofs.set_below.Given as goal

abbrev pub invariant-loop-k : goal.invariant-loop-k
invariant-loop-k l = Below l.circuit l.initial.want l.want l.k
