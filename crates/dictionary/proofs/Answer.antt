-- From the checks to an engine's promise; and that the promise allows one result only.
-- Assumes nothing.
use mathlib.Core.Path.{◌≡◌}
use mathlib.Core.List.{List}
use Prim.Native.Nat.{ℕ}
use lib.ListN.{length}
use Rattle.answers.specs.Rules.{Ruling}
use Rattle.circuit.specs.declared.Counts.{Counts}
use Rattle.circuit.specs.Record.{lines_of, inputs_of}
use Rattle.simulate.proofs.Small.{all_small}
use Rattle.rows.specs.Table.{table_of}
use Rattle.rows.specs.Owed.{TableReady}
use Rattle.dictionary.specs.Promise.{Answered}
use Rattle.dictionary.specs.Owed.{AllChecked}
use Rattle.dictionary.proofs.Checked.{Taken, all_refuses}
use Rattle.std.specs.Prelude.{Ok, Err, Result}
use Rattle.answers.specs.declared.Refusal.{Refusal}
use Rattle.answers.specs.declared.Reason.{Reason}

-- what is not refused is ready
pub ready : {places : ℕ} {c fs ps : List ℕ} {table work : ℕ} → Taken places c fs ps table work → TableReady 256 places c (lines_of c) (inputs_of c) fs ps table work
ready {ps = ps} k = record {
  well = k.good.well;
  most_lines = k.good.most_lines;
  some_inputs = k.good.some_inputs;
  most_inputs = k.good.most_inputs;
  faults = k.faults.records;
  fault_lines = λ j l. (k.faults.faults j l).line;
  fault_values = λ j l. (k.faults.faults j l).value;
  patterns = k.patterns.records;
  pattern_values = all_small ps k.patterns.bytes;
  entries = k.table_is;
  room = k.work_is;
}

module _ {places : ℕ} {left c fs ps t w : List ℕ} where
  -- a refusal is the answer, and leaves both memories
  pub refused_answer : {v : Result Counts Refusal} {why : Refusal} → AllChecked places c fs ps (length t) (length w) v → v ≡ Err why → Answered places left c fs ps t w (Err why) t w
  refused_answer p told = let e = all_refuses p told in record { answer = rw e; numbers = rw e; table = rw e; work = rw e }

  -- where there is none, the table is made
  pub made_answer : {t' w' : List ℕ}
      → Taken places c fs ps (length t) (length w)
      → t' ≡ table_of c (lines_of c) (inputs_of c) fs ps
      → w' ≡ left
      → Answered places left c fs ps t w (Ok tt) t' w'
  made_answer k made kept = let e = k.fine in record { answer = rw e; numbers = rw e; table = rw e made; work = rw e kept }

-- two results that the promise allows are equal
pub one_result : {places : ℕ} {left c fs ps t w : List ℕ} {r r₂ : Ruling} {t' t₂ w' w₂ : List ℕ}
    → Answered places left c fs ps t w r t' w'
    → Answered places left c fs ps t w r₂ t₂ w₂
    → (r ≡ r₂) × (t' ≡ t₂) × (w' ≡ w₂)
one_result p q = (cc, cc, cc)
