-- `names::hash` meets its contract: what is left of the word is still to be mixed in.
-- Assumes nothing.
use mathlib.Core.Path.{◌≡◌}
use Prim.Native.Nat.{◌-◌, ◌<◌}
use lib.ListN.{length}
use Rattle.words.specs.Words.{word_at}
use Rattle.names.specs.Owed.{hash_from}
use Rattle.names.proofs.hash.Given as goal

abbrev pub invariant-loop-h : goal.invariant-loop-h
invariant-loop-h l = (hash_from 0 (word_at l.text l.at) ≡ hash_from l.h (word_at l.text l.x)) × (l.h < 8192)

abbrev pub decreases-loop-h : goal.decreases-loop-h
decreases-loop-h l = length l.text - l.x
