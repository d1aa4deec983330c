-- `words::same_word` meets its contract: both words are walked until they differ or end.
-- Assumes nothing.
use Rattle.words.specs.Words.{word_at, same}
use Prim.Native.Nat.{◌-◌}
use lib.ListN.{length}
use mathlib.Core.Path.{◌≡◌}
use Rattle.words.proofs.same_word.Given as goal

abbrev pub invariant-loop-i : goal.invariant-loop-i
invariant-loop-i l = same (word_at l.text l.i) (word_at l.text l.j) ≡ same (word_at l.text l.x) (word_at l.text l.y)

abbrev pub decreases-loop-i : goal.decreases-loop-i
decreases-loop-i l = length l.text - l.x
