-- `words::cut` meets its contract: each byte may begin a word or end a line.
-- Assumes nothing.
use Rattle.words.proofs.Loop.{SoFar}
use Rattle.words.proofs.cut.Given as goal

abbrev pub invariant-loop-i : goal.invariant-loop-i
invariant-loop-i l = SoFar l.text l.words l.ends l.m l.w l.k l.i
