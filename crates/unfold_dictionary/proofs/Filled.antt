-- Where nothing is refused: the unfolded circuit is ready to be written, its table to be filled, and what is filled is what is promised.
-- Assumes nothing.
use mathlib.Core.Path.{◌≡◌, ◌∙◌}
use mathlib.Core.List.{List}
use Prim.Native.Nat.{ℕ, ◌*◌, ◌≤◌}
use lib.ListN.{length}
use Rattle.answers.specs.Rules.{Ruling}
use Rattle.answers.specs.Rules.{refusal}
use Rattle.simulate.specs.Simulate.{stuck_in_steps}
use Rattle.rows.specs.Table.{work_under}
use Rattle.rows.specs.Owed.{TableReady, FaultsInSteps}
use Rattle.groups.specs.Owed.{GroupsDone}
use Rattle.states.specs.declared.Clocked.{Clocked}
use Rattle.states.specs.Rules.{lines_after}
use Rattle.unfolded.specs.Unfolded.{unfolded}
use Rattle.unfold.specs.Owed.{UnfoldReady}
use Rattle.unfold_dictionary.specs.Promise.{steps_dictionary_rules, StepsDictionary}
use Rattle.unfold_dictionary.specs.Owed.{StepsChecked, LeaveReady, FillReady, FillDone}
use Rattle.unfold_dictionary.proofs.Checked as checked
use Rattle.unfold_dictionary.proofs.Checked.{StepsTaken, steps_taken, faults_in_steps, steps_ready, steps_refuse}
use Rattle.std.specs.Prelude.{Ok, Err, Result}
use Rattle.answers.specs.declared.Refusal.{Refusal}
use Rattle.answers.specs.declared.Reason.{Reason}

module _ {c st : List ℕ} {n k m : ℕ} {fs ps : List ℕ} {table work : ℕ} (r : FillReady c st n k m fs ps table work) where
  pub taken : StepsTaken c st k fs ps table work
  taken = steps_taken c st k fs ps table work r.fine

  pub few_lines : k * n ≤ 2048
  few_lines = checked.few_lines taken.clocked r.lines

  pub unfold_ready : (u : List ℕ) → length u ≡ 8 * lines_after c k → UnfoldReady c st n k u
  unfold_ready u e = record { ready = record { lines = r.lines; well = taken.clocked.good.well; steps = taken.clocked.steps }; room = e }

  -- u is the unfolded circuit
  module _ {u : List ℕ} (is : u ≡ unfolded c st k) where
    pub groups_ready : {room : ℕ} → room ≡ 4 * lines_after c k → TableReady 256 4 u (k * n) m fs ps table room × FaultsInSteps n (k * n) fs
    groups_ready fits = rw (is, r.lines, r.inputs) (steps_ready taken 4 fits, faults_in_steps taken)

    pub leave_ready : LeaveReady u (k * n) n m fs ps work
    leave_ready =
        rw (is, r.lines, r.inputs)
        (record { ready = rw (← taken.rest.table_is) (steps_ready taken 2 taken.rest.work_is); steps = faults_in_steps taken })

    pub filled : {t w words : List ℕ}
        → GroupsDone (stuck_in_steps n) u (k * n) m fs ps t words
        → w ≡ work_under (stuck_in_steps n) u (k * n) m fs ps
        → FillDone c st k fs ps t w
    filled groups left = record { table_is = groups.table_is ∙ rw (is, r.lines, r.inputs); work_is = left ∙ rw (is, r.lines, r.inputs) }

-- ---- the promise

module _ {c st : List ℕ} {k : ℕ} {fs ps t w : List ℕ} where
  -- a refusal is the answer, and leaves both memories
  pub refused_answer : {v : Result Clocked Refusal} {why : Refusal} → StepsChecked c st k fs ps (length t) (length w) v → v ≡ Err why → StepsDictionary c st k fs ps t w (Err why) t w
  refused_answer p told = let e = steps_refuse p told in record { answer = rw e; numbers = rw e; table = rw e; work = rw e }

  -- where there is none, the table is made
  pub made_answer : {t' w' : List ℕ}
      → refusal (steps_dictionary_rules c st k fs ps (length t) (length w)) ≡ Ok tt
      → FillDone c st k fs ps t' w'
      → StepsDictionary c st k fs ps t w (Ok tt) t' w'
  made_answer e f = record { answer = rw e; numbers = rw e; table = rw e f.table_is; work = rw e f.work_is }
