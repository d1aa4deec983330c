-- What the functions of the dictionary maker owe each other and other engines; no reader of the promises needs it.
-- Assumes nothing.
use Rattle.std.specs.Prelude.{◌≡◌, List, ℕ, Result}
use Rattle.answers.specs.Rules.{refusal}
use Rattle.answers.specs.Answer.{answered}
use Rattle.circuit.specs.Record.{lines_of, inputs_of, outputs_of}
use Rattle.circuit.specs.declared.Counts.{Counts}
use Rattle.dictionary.specs.Promise.{dictionary_rules}
use Rattle.answers.specs.declared.Refusal.{Refusal}
use Rattle.circuit.specs.Promise.{counts_are}

-- what is checked gives the circuit's numbers, where nothing is refused
pub record AllChecked (places : ℕ) (c fs ps : List ℕ) (table work : ℕ) (r : Result Counts Refusal) : Type 0 where
  pub answer : r ≡ answered (refusal (dictionary_rules places c fs ps table work)) (counts_are (lines_of c) (inputs_of c) (outputs_of c))
