-- `words::word_table` meets its contract: antt computes whether each byte belongs to a word.
-- Assumes nothing.
use mathlib.Core.Path.{refl}
use Rattle.ground.specs.Lists.{grow}
use Rattle.words.specs.Words.{within, word_byte}
use Rattle.words.specs.Owed.{WordTable}
use Rattle.words.proofs.word_table.Goals as goal

pub returns : goal.returns
unfolding WordTable grow within word_byte
returns c = refl
