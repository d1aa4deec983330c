-- `lane_lines::simulate_words` meets its contract. The invariant: in every lane the lines passed have had their turn.
-- Assumes nothing.
use Rattle.lane_lines.proofs.Turns.{SoFar}
use Rattle.lane_lines.proofs.simulate_words.Given as goal

abbrev pub invariant-loop-k : goal.invariant-loop-k
invariant-loop-k l = SoFar l.circuit l.n l.initial.words l.start l.end l.words l.k
