-- `setting::put_heads` meets its contract: line by line, with the number of head lines so far.
-- Assumes nothing.
use Rattle.setting.proofs.Heads.{Heads}
use Rattle.setting.proofs.put_heads.Given as goal

abbrev pub invariant-loop-k : goal.invariant-loop-k
invariant-loop-k l = Heads l.circuit l.node l.initial.want l.want l.k l.used
