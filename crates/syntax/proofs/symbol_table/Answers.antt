-- `syntax::symbol_table` meets its contract: antt computes the symbol of each byte.
-- Assumes nothing.
use mathlib.Core.Path.{refl}
use Rattle.ground.specs.Lists.{grow}
use Rattle.words.specs.Words.{within, word_byte}
use Rattle.syntax.specs.Regular.{has}
use Rattle.syntax.specs.Grammar.{signs, place_in, symbol}
use Rattle.syntax.specs.Owed.{SymbolTable}
use Rattle.syntax.proofs.symbol_table.Goals as goal

pub returns : goal.returns
unfolding SymbolTable grow symbol has signs within word_byte place_in
returns c = refl
