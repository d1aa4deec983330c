-- `syntax::state_table` meets its contract: antt computes each state at each symbol.
-- Assumes nothing.
use mathlib.Core.Path.{refl}
use Rattle.ground.specs.Lists.{grow}
use Rattle.words.specs.Words.{within, word_byte}
use Rattle.syntax.specs.Regular.{has}
use Rattle.syntax.specs.Derivative.{cat, besides, either, empty, next, after}
use Rattle.syntax.specs.Kinds.{input_word, output_word, kinds, kind_words}
use Rattle.syntax.specs.Grammar.{signs, place_in, symbol, letters, keys, word_symbol, up_to, blanks, name, mark, close, one_argument, two_arguments, gate, statement, comment, line, bench}
use Rattle.syntax.specs.Owed.{then, in_name, in_keyword, in_kind, states, cell_says, row, rows, StateTable}
use Rattle.syntax.proofs.state_table.Goals as goal

pub returns : goal.returns
unfolding StateTable states cell_says row rows grow then in_name after in_keyword in_kind has cat besides either empty next
    signs within word_byte place_in symbol letters keys input_word output_word kinds kind_words word_symbol up_to blanks name mark close one_argument two_arguments gate statement comment line bench
returns c = refl
