-- What the functions of the dictionary over several steps owe each other; no reader of the promise needs it.
-- Assumes nothing.
use Rattle.std.specs.Prelude.{◌≡◌, List, ℕ, ◌*◌, Ok, Result}
use Rattle.answers.specs.Rules.{Ruling}
use Rattle.answers.specs.Rules.{refusal}
use Rattle.circuit.specs.Record.{lines_of}
use Rattle.lists.specs.Faults.{fault_count}
use Rattle.lists.specs.Patterns.{pattern_count}
use Rattle.rows.specs.Owed.{TableReady, FaultsInSteps}
use Rattle.states.specs.declared.Clocked.{Clocked}
use Rattle.states.specs.Rules.{lines_after, inputs_after}
use Rattle.states.specs.Owed.{clocked_by}
use Rattle.unfold_dictionary.specs.Promise.{steps_dictionary_rules, steps_table, steps_work}
use Rattle.answers.specs.declared.Refusal.{Refusal}

-- what is checked gives the lines of a step and the inputs after unfolding, where nothing is refused
pub record StepsChecked (c st : List ℕ) (k : ℕ) (fs ps : List ℕ) (table work : ℕ) (r : Result Clocked Refusal) : Type 0 where
  pub answer : r ≡ clocked_by (steps_dictionary_rules c st k fs ps table work) (lines_of c) (inputs_after c st k)

-- nothing is refused, and these are the lines and inputs
pub record FillReady (c st : List ℕ) (n k m : ℕ) (fs ps : List ℕ) (table work : ℕ) : Type 0 where
  pub fine : refusal (steps_dictionary_rules c st k fs ps table work) ≡ Ok tt
  pub lines : n ≡ lines_of c
  pub inputs : m ≡ inputs_after c st k

-- and memory for the unfolded circuit, and four words for each of its lines
pub record FillInReady (c st : List ℕ) (n k m : ℕ) (fs ps : List ℕ) (room words table work : ℕ) : Type 0 where
  pub ready : FillReady c st n k m fs ps table work
  pub fits : room ≡ 8 * lines_after c k
  pub words_fit : words ≡ 4 * lines_after c k

-- a table would be ready, with work memory for the values of n lines; the faults are on lines of the first step
pub record LeaveReady (c : List ℕ) (n step m : ℕ) (fs ps : List ℕ) (work : ℕ) : Type 0 where
  pub ready : TableReady 256 2 c n m fs ps (fault_count fs * pattern_count m ps) work
  pub steps : FaultsInSteps step n fs

pub record FillDone (c st : List ℕ) (k : ℕ) (fs ps t w : List ℕ) : Type 0 where
  pub table_is : t ≡ steps_table c st k fs ps
  pub work_is : w ≡ steps_work c st k fs ps
