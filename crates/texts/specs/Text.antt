-- What a text of the bench notation says: its names, its net, and where the names of the records' lines begin.
-- Assumes nothing.
use Rattle.std.specs.Prelude.{List, ◌++◌, map, ℕ, get_or}
use Rattle.ground.specs.Lists.{index_in, table}
use Rattle.words.specs.Words.{words_in, ends_in}
use Rattle.forms.specs.Lines.{forms_of}
use Rattle.forms.specs.Forms.{inputs_in}
use Rattle.statements.specs.Tables as tables
use Rattle.names.specs.Names.{name_number}
use Rattle.records.specs.Net.{Net, net_size, number_on}

-- each line's form
abbrev pub forms_in : List ℕ → List ℕ
forms_in t = forms_of t (words_in t) (ends_in t)

-- the names that are defined, and those that are used
abbrev pub defs_in : List ℕ → List ℕ
defs_in t = tables.defs_of (words_in t) (ends_in t) (forms_in t)

abbrev pub outs_in : List ℕ → List ℕ
outs_in t = tables.outs_of (words_in t) (ends_in t) (forms_in t)

abbrev pub firsts_in : List ℕ → List ℕ
firsts_in t = tables.firsts_of (words_in t) (ends_in t) (forms_in t)

abbrev pub seconds_in : List ℕ → List ℕ
seconds_in t = tables.seconds_of (words_in t) (ends_in t) (forms_in t)

abbrev pub uses_in : List ℕ → List ℕ
uses_in t = outs_in t ++ (firsts_in t ++ seconds_in t)

-- the number of the name at a byte
abbrev pub number_in : List ℕ → ℕ → ℕ
number_in t i = name_number t (defs_in t) (tables.def_numbers_of (forms_in t)) i

-- the text with numbers for names
unfoldable pub net_in : List ℕ → Net
net_in t = record {
  inputs = inputs_in (forms_in t);
  kinds = tables.kinds_of t (words_in t) (ends_in t) (forms_in t);
  firsts = map (number_in t) (firsts_in t);
  seconds = map (number_in t) (seconds_in t);
  outputs = map (number_in t) (outs_in t);
}

-- the first byte of the name that stands on line k of the records, where the text defines it
unfoldable pub place_on : List ℕ → ℕ → ℕ
place_on t k = get_or (defs_in t) (index_in (tables.def_numbers_of (forms_in t)) (number_on (net_in t) k)) 0

-- of all lines
unfoldable pub places_in : List ℕ → List ℕ
places_in t = table (place_on t) (net_size (net_in t))
