-- All that is checked, in order: tests and words of the rules agree, and what is not refused is good, and ready to be filled.
-- Assumes nothing.
use mathlib.Core.Path.{◌≡◌, refl, sym, ap, ◌∙◌}
use mathlib.Core.List.{List}
use Prim.Native.Nat.{ℕ, ◌*◌, ◌≤◌}
use native.Mathlib.Nat.{mul-le-mul_right, one-mul}
use native.Mathlib.Omega.{arith}
use Rattle.answers.specs.Rules.{Ruling}
use Rattle.answers.specs.Rules.{refusal, AllSay}
use Rattle.answers.proofs.Rules.{after_refused, after_fine, both_fine, both_say, same_good}
use Rattle.answers.proofs.Answer.{was_ruled, ruling_of}
use Rattle.circuit.specs.Record.{lines_of}
use Rattle.simulate.proofs.Small.{all_small}
use Rattle.rows.specs.Owed.{TableReady, FaultsInSteps}
use Rattle.dictionary.specs.Promise.{dictionary_rest_rules}
use Rattle.dictionary.proofs.Checked.{RestTaken, rest_says, rest_taken}
use Rattle.states.specs.declared.Clocked.{Clocked}
use Rattle.states.specs.Rules.{lines_after, inputs_after, clocked_rules, clocked_are}
use Rattle.states.proofs.Says.{clocked_says}
use Rattle.states.proofs.Steps.{ClockedTaken, clocked_taken}
use Rattle.unfolded.specs.Unfolded.{unfolded}
use Rattle.unfolded.proofs.Accepted.{unfolded-formed}
use Rattle.unfold_dictionary.specs.Promise.{rest_rules, steps_dictionary_rules}
use Rattle.unfold_dictionary.specs.Owed.{StepsChecked}
use Rattle.std.specs.Prelude.{Ok, Err, Result}
use Rattle.answers.specs.declared.Refusal.{Refusal}
use Rattle.answers.specs.declared.Reason.{Reason}

-- what is not refused
pub record StepsTaken (c st : List ℕ) (k : ℕ) (fs ps : List ℕ) (table work : ℕ) : Type 0 where
  pub fine : refusal (steps_dictionary_rules c st k fs ps table work) ≡ Ok tt
  pub clocked : ClockedTaken c st k
  pub rest : RestTaken (2 * lines_after c k) c (inputs_after c st k) fs ps table work

module _ (c st : List ℕ) (k : ℕ) (fs ps : List ℕ) (table work : ℕ) where
  pub steps_say : AllSay (steps_dictionary_rules c st k fs ps table work)
  steps_say = both_say (clocked_rules c st k) _ (clocked_says c st k) (rest_says (2 * lines_after c k) c (inputs_after c st k) fs ps table work)

  pub steps_taken : refusal (steps_dictionary_rules c st k fs ps table work) ≡ Ok tt → StepsTaken c st k fs ps table work
  steps_taken e =
      let a = both_fine (clocked_rules c st k) _ e in
      record { fine = e; clocked = clocked_taken c st k a.0; rest = rest_taken (2 * lines_after c k) c (inputs_after c st k) fs ps table work a.1 }

-- a circuit has no more lines than after unfolding
pub step_inside : (c : List ℕ) (k : ℕ) → 1 ≤ k → lines_of c ≤ lines_after c k
step_inside c k some = omega (arith, mul-le-mul_right (lines_of c) some, one-mul (lines_of c))

module _ {c st : List ℕ} {k : ℕ} {fs ps : List ℕ} {table work : ℕ} (t : StepsTaken c st k fs ps table work) where
  pub faults_in_steps : FaultsInSteps (lines_of c) (lines_after c k) fs
  faults_in_steps = record { inside = step_inside c k t.clocked.steps.some_steps; lines = λ j l. (t.rest.faults.faults j l).line }

  -- with so many places for each line
  pub steps_ready : (places : ℕ) {room : ℕ} → room ≡ places * lines_after c k → TableReady 256 places (unfolded c st k) (lines_after c k) (inputs_after c st k) fs ps table room
  steps_ready places fits = record {
    well = unfolded-formed t.clocked.circuit_fine t.clocked.steps;
    most_lines = t.clocked.steps.most_lines;
    some_inputs = omega (arith, t.clocked.good.some_inputs);
    most_inputs = t.clocked.steps.most_inputs;
    faults = t.rest.faults.records;
    fault_lines = λ j l. omega (arith, (t.rest.faults.faults j l).line, faults_in_steps.inside);
    fault_values = λ j l. (t.rest.faults.faults j l).value;
    patterns = t.rest.patterns.records;
    pattern_values = all_small ps t.rest.patterns.bytes;
    entries = t.rest.table_is;
    room = fits;
  }

-- ---- the answer of the checks

-- so few lines that their number fits
pub few_lines : {c st : List ℕ} {k n : ℕ} → ClockedTaken c st k → n ≡ lines_of c → k * n ≤ 2048
few_lines t lines = rw lines t.steps.most_lines

-- the clocked circuit is accepted, with n lines in a step and m inputs after unfolding
decides : (c st : List ℕ) (k : ℕ) (fs ps : List ℕ) (table work : ℕ) {n m : ℕ} → ClockedTaken c st k → n ≡ lines_of c → m ≡ inputs_after c st k
    → refusal (steps_dictionary_rules c st k fs ps table work) ≡ refusal (dictionary_rest_rules (2 * (k * n)) c m fs ps table work)
decides c st k fs ps table work t lines inputs = rw (lines, inputs) (after_fine (clocked_rules c st k) _ t.fine)

module _ {c st : List ℕ} {k : ℕ} {fs ps : List ℕ} {table work : ℕ} where
  pub clocked_refused : {why : Refusal} → refusal (clocked_rules c st k) ≡ Err why → StepsChecked c st k fs ps table work (Err why)
  clocked_refused e = record { answer = rw (after_refused (clocked_rules c st k) (rest_rules c st k fs ps table work) e) }

  module _ (t : ClockedTaken c st k) {n m : ℕ} (lines : n ≡ lines_of c) (inputs : m ≡ inputs_after c st k) where
    pub rest_refused : {why : Refusal} → refusal (dictionary_rest_rules (2 * (k * n)) c m fs ps table work) ≡ Err why → StepsChecked c st k fs ps table work (Err why)
    rest_refused e = record { answer = rw (decides c st k fs ps table work t lines inputs ∙ e) }

    pub rest_fine : refusal (dictionary_rest_rules (2 * (k * n)) c m fs ps table work) ≡ Ok tt → StepsChecked c st k fs ps table work (Ok (clocked_are n m))
    rest_fine e = record { answer = rw (decides c st k fs ps table work t lines inputs ∙ e, lines, inputs) }

  module _ {r : Result Clocked Refusal} (p : StepsChecked c st k fs ps table work r) where
    was : refusal (steps_dictionary_rules c st k fs ps table work) ≡ ruling_of r
    was = was_ruled _ p.answer refl

    pub steps_refuse : {why : Refusal} → r ≡ Err why → refusal (steps_dictionary_rules c st k fs ps table work) ≡ Err why
    steps_refuse told = was ∙ ap ruling_of told

    pub steps_accept : {n m : ℕ} → r ≡ Ok (clocked_are n m) → (refusal (steps_dictionary_rules c st k fs ps table work) ≡ Ok tt) × (n ≡ lines_of c) × (m ≡ inputs_after c st k)
    steps_accept {n} {m} told =
        let q : refusal (steps_dictionary_rules c st k fs ps table work) ≡ Ok tt = was ∙ ap ruling_of told in
        let so : clocked_are n m ≡ clocked_are (lines_of c) (inputs_after c st k) = same_good (sym told ∙ p.answer ∙ rw q) in
        (q, ap (λ (a : Clocked). a.lines) so, ap (λ (a : Clocked). a.inputs) so)
