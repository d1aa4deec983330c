-- `words::is_name` meets its contract: the keyword is walked, and the word of the text ends where it does.
-- Assumes nothing.
use Rattle.words.specs.Words.{word_at, same}
use lib.ListN.{drop}
use Prim.Native.Nat.{◌+◌}
use mathlib.Core.Path.{◌≡◌}
use Rattle.words.proofs.is_name.Given as goal

abbrev pub invariant-loop-k : goal.invariant-loop-k
invariant-loop-k l = same (word_at l.text l.at) l.name ≡ same (word_at l.text (l.at + l.k)) (drop l.k l.name)
