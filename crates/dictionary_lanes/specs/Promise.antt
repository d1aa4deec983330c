-- The second engine of the dictionary maker, 64 patterns at once: the refusals and the table are those of the first, but the work memory has
-- four words a line.
-- Assumes nothing.
use Rattle.std.specs.Prelude.{List, ℕ}
use Rattle.answers.specs.Rules.{Ruling}
use Rattle.circuit.specs.Record.{lines_of, inputs_of}
use Rattle.dictionary.specs.Promise.{Answered}
use Rattle.groups.specs.Work.{lane_work}

-- the promise, whatever the bytes and words
abbrev pub DictionaryLanes : List ℕ → List ℕ → List ℕ → List ℕ → List ℕ → Ruling → List ℕ → List ℕ → Type 0
DictionaryLanes c fs ps t w r t' w' = Answered 4 (lane_work c (lines_of c) (inputs_of c) fs ps) c fs ps t w r t' w'
