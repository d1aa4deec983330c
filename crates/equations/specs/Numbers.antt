-- The numbers that stand for the names of a text: the gates' in the text's order from 0 on, then the inputs'; and the lines of the records.
-- Assumes nothing.
use Rattle.std.specs.Prelude.{List, ◌++◌, ℕ, ◌-◌, length, get_or}
use Rattle.ground.specs.Lists.{collect}
use Rattle.words.specs.Words.{word_at, words_in, ends_in}
use Rattle.forms.specs.Forms.{says_input, says_gate}
use Rattle.statements.specs.Tables.{defined_at, def_numbers_of}
use Rattle.names.specs.Names.{definition}
use Rattle.records.specs.Net.{net_line}
use Rattle.texts.specs.Text.{forms_in, defs_in, net_in}
use Rattle.equations.specs.Meaning.{lines_in}

-- the name of a number
unfoldable pub gate_names : List ℕ → List ℕ
gate_names t = collect (says_gate (forms_in t)) (defined_at (words_in t) (ends_in t) (forms_in t)) (lines_in t)

unfoldable pub input_names : List ℕ → List ℕ
input_names t = collect (says_input (forms_in t)) (defined_at (words_in t) (ends_in t) (forms_in t)) (lines_in t)

unfoldable pub name_of : List ℕ → ℕ → List ℕ
name_of t x = word_at t (get_or (gate_names t ++ input_names t) x 0)

-- the number of a name
unfoldable pub number_for : List ℕ → List ℕ → ℕ
number_for t w = get_or (def_numbers_of (forms_in t)) (definition t (defs_in t) (length (defs_in t)) w - 1) 0

-- the line of a name
unfoldable pub line_for : List ℕ → List ℕ → ℕ
line_for t w = net_line (net_in t) (number_for t w)
