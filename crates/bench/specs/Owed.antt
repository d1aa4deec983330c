-- What the functions of the reader of texts owe each other; no reader of the promises needs it.
-- Assumes nothing.
use Rattle.std.specs.Prelude.{List, ℕ, length, Result}
use Rattle.ground.specs.Put.{laid_on}
use Rattle.answers.specs.Owed.{RulesDone}
use Rattle.answers.specs.Rules.{Rule}
use Rattle.circuit.specs.Record.{lines_of}
use Rattle.texts.specs.Text.{places_in}
use Rattle.texts.specs.Owed.{text_rules}
use Rattle.bench.specs.Promise.{records_in}
use Rattle.answers.specs.declared.Refusal.{Refusal}

-- the answer, and the places of the names and the buffer afterwards
abbrev pub PlacesDone : List Rule → List ℕ → List ℕ → List ℕ → List ℕ → List ℕ → Result ℕ Refusal → Type 0
PlacesDone rules t p p' c c' r =
    RulesDone {M = List ℕ × List ℕ} rules (lines_of (records_in t)) (p, c) (laid_on p (places_in t), laid_on c (records_in t)) r (p', c')

-- of a text that is right in syntax
abbrev pub TextDone : List ℕ → List ℕ → List ℕ → List ℕ → List ℕ → Result ℕ Refusal → Type 0
TextDone t p p' c c' r = PlacesDone (text_rules t (length c)) t p p' c c' r
