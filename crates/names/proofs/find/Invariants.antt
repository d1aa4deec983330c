-- `names::find` meets its contract: the definitions with the same hash are followed, the last first.
-- Assumes nothing.
use Rattle.words.specs.Words.{word_at}
use Rattle.names.proofs.Chain.{ChainWalk}
use Rattle.names.proofs.find.Given as goal

abbrev pub invariant-walk : goal.invariant-walk
invariant-walk l = ChainWalk l.text l.defs (word_at l.text l.at) l.n l.h l.link

abbrev pub decreases-walk : goal.decreases-walk
decreases-walk l = l.link
