-- `lane_lines::put_input_words` meets its contract. The invariant: the lines passed are set.
-- Assumes nothing.
use Rattle.lane_lines.proofs.Inputs.{SoFar}
use Rattle.lane_lines.proofs.put_input_words.Given as goal

abbrev pub invariant-loop-k : goal.invariant-loop-k
invariant-loop-k l = SoFar l.circuit l.inputs l.n l.patterns l.words l.k l.used
