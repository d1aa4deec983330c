-- The dictionary of a clocked circuit over several steps: the refusals 1, 2, 4, 5, 21, 18, 19 and 6 to 10, and what is promised. Faults are those of the
-- clocked circuit, each in every step at once; patterns, table and work memory are those of the unfolded circuit.
-- Assumes nothing.
use Rattle.std.specs.Prelude.{◌≡◌, List, ◌++◌, ℕ, ◌*◌, length}
use Rattle.answers.specs.Rules.{Ruling}
use Rattle.answers.specs.Rules.{Rule, refusal, unless}
use Rattle.answers.specs.Area.{told, done}
use Rattle.circuit.specs.Record.{lines_of}
use Rattle.simulate.specs.Simulate.{stuck_in_steps}
use Rattle.rows.specs.Table.{Forces, table_under, work_under}
use Rattle.dictionary.specs.Promise.{dictionary_rest_rules}
use Rattle.states.specs.Rules.{lines_after, inputs_after, clocked_rules}
use Rattle.unfolded.specs.Unfolded.{unfolded}

-- what is checked after the clocked circuit: its faults, patterns with a value for each input after unfolding, and the exact sizes
abbrev pub rest_rules : List ℕ → List ℕ → ℕ → List ℕ → List ℕ → ℕ → ℕ → List Rule
rest_rules c st k fs ps table work = dictionary_rest_rules (2 * lines_after c k) c (inputs_after c st k) fs ps table work

abbrev pub steps_dictionary_rules : List ℕ → List ℕ → ℕ → List ℕ → List ℕ → ℕ → ℕ → List Rule
steps_dictionary_rules c st k fs ps table work = clocked_rules c st k ++ rest_rules c st k fs ps table work

-- what they say of a table t and a work memory w that are lent
abbrev pub steps_dictionary_ruling : List ℕ → List ℕ → ℕ → List ℕ → List ℕ → List ℕ → List ℕ → Ruling
steps_dictionary_ruling c st k fs ps t w = refusal (steps_dictionary_rules c st k fs ps (length t) (length w))

-- a fault is in every step
abbrev pub in_every_step : List ℕ → Forces
in_every_step c = stuck_in_steps (lines_of c)

-- the rows of the unfolded circuit, and the values of its lines under the last pattern with the last fault
abbrev pub steps_table : List ℕ → List ℕ → ℕ → List ℕ → List ℕ → List ℕ
steps_table c st k fs ps = table_under (in_every_step c) (unfolded c st k) (lines_after c k) (inputs_after c st k) fs ps

abbrev pub steps_work : List ℕ → List ℕ → ℕ → List ℕ → List ℕ → List ℕ
steps_work c st k fs ps = work_under (in_every_step c) (unfolded c st k) (lines_after c k) (inputs_after c st k) fs ps

-- the promise, whatever the bytes, where t and w were lent, and r, t' and w' come back: the answer, its number and values, and every byte
pub record StepsDictionary (c st : List ℕ) (k : ℕ) (fs ps t w : List ℕ) (r : Ruling) (t' w' : List ℕ) : Type 0 where
  pub answer : r ≡ steps_dictionary_ruling c st k fs ps t w
  pub numbers : told r done ≡ told (steps_dictionary_ruling c st k fs ps t w) done
  pub table : t' ≡ unless (steps_dictionary_ruling c st k fs ps t w) t (steps_table c st k fs ps)
  pub work : w' ≡ unless (steps_dictionary_ruling c st k fs ps t w) w (steps_work c st k fs ps)
