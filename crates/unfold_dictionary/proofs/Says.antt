-- The promise and the words of the clocked circuit say the same; and two results that the promise allows are equal.
-- Assumes nothing.
use mathlib.Core.Path.{◌≡◌, sym, ap, ◌∙◌}
use mathlib.Core.List.{List}
use Prim.Native.Nat.{ℕ, ◌-◌, ◌*◌, ◌<◌}
use native.Mathlib.Omega.{arith}
use lib.ListN.{length}
use Rattle.answers.specs.Rules.{Ruling}
use Rattle.answers.specs.Area.{told, done}
use Rattle.answers.proofs.Rules.{refused_applies, applies_refused}
use Rattle.answers.proofs.Words.{by_words, lent_by_words}
use Rattle.lists.specs.Faults.{fault_count, FaultLayout}
use Rattle.lists.specs.Patterns.{pattern_count, pattern_at}
use Rattle.simulate.specs.Owed.{AllSmall}
use Rattle.simulate.proofs.Small.{all_small, part_small}
use Rattle.rows.specs.Table.{work_under, last_pattern}
use Rattle.rows.specs.Words.{MadeUnder}
use Rattle.rows.proofs.Entries.{made, one_made}
use Rattle.states.specs.Rules.{lines_after, inputs_after}
use Rattle.unfolded.specs.Unfolded.{unfolded}
use Rattle.clocked.proofs.EveryStep.{good_values, faulty_values}
use Rattle.unfold_dictionary.specs.Promise.{steps_dictionary_rules, in_every_step, steps_table, steps_work, StepsDictionary}
use Rattle.unfold_dictionary.specs.Words.{StepsMade, StepsLeft, StepsInWords}
use Rattle.unfold_dictionary.proofs.Checked.{StepsTaken, steps_say, steps_taken}
use Rattle.unfold_dictionary.proofs.Entries.{steps_entry, one_entry}

module _ {c st : List ℕ} {k : ℕ} {fs ps : List ℕ} {table work : ℕ} (t : StepsTaken c st k fs ps table work) where
  pub layout : (j : ℕ) → j < fault_count fs → FaultLayout c fs j
  layout = t.rest.faults.faults

  pub small : (i : ℕ) → AllSmall (pattern_at (inputs_after c st k) ps i)
  small i = part_small ps (inputs_after c st k) (i * inputs_after c st k) (all_small ps t.rest.patterns.bytes)

  pub made_by_rows : MadeUnder (in_every_step c) (unfolded c st k) (lines_after c k) (inputs_after c st k) fs ps (steps_table c st k fs ps)
  made_by_rows = made (in_every_step c) (unfolded c st k) (lines_after c k) (inputs_after c st k) fs ps

  -- the table is the one that the words ask for
  pub table_made : StepsMade c st k fs ps (steps_table c st k fs ps)
  table_made = record {
    size = made_by_rows.size;
    entry = λ i j h g.
        rw (made_by_rows.entry i j h g)
        (steps_entry t.clocked.good t.clocked.steps (pattern_at (inputs_after c st k) ps i) (small i) fs j (layout j g));
  }

  -- and no other is
  pub one_table : {u : List ℕ} → StepsMade c st k fs ps u → u ≡ steps_table c st k fs ps
  one_table w =
      one_made (in_every_step c) (unfolded c st k) (lines_after c k) (inputs_after c st k) fs ps
      (record {
        size = w.size;
        entry = λ i j h g. one_entry t.clocked.good t.clocked.steps (pattern_at (inputs_after c st k) ps i) (small i) fs j (layout j g) (w.entry i j h g);
      })

  -- nor is other work memory
  pub work_left : StepsLeft c st k fs ps (steps_work c st k fs ps)
  unfolding work_under
  work_left =
      let last = small (pattern_count (inputs_after c st k) ps - 1) in
      let here = layout (fault_count fs - 1) (omega (arith, t.rest.faults.records.some)) in
      rw (good_values t.clocked.good t.clocked.steps (last_pattern (inputs_after c st k) ps) last, faulty_values t.clocked.good t.clocked.steps (last_pattern (inputs_after c st k) ps) last fs (fault_count fs - 1) here)

module _ {c st : List ℕ} {k : ℕ} {fs ps t w : List ℕ} {r : Ruling} {t' w' : List ℕ} where
  -- the promise meets the words
  pub steps_in_words : StepsDictionary c st k fs ps t w r t' w' → StepsInWords c st k fs ps t w r t' w'
  steps_in_words d = record {
    refused = refused_applies _ (steps_say c st k fs ps (length t) (length w)) d.answer;
    refuses = applies_refused _ (steps_say c st k fs ps (length t) (length w)) d.answer;
    nothing = λ m p e. (d.table ∙ rw (sym d.answer ∙ e), d.work ∙ rw (sym d.answer ∙ e));
    made = λ e.
        let q = sym d.answer ∙ e in
        let taken = steps_taken c st k fs ps (length t) (length w) q in
        let table : t' ≡ steps_table c st k fs ps = d.table ∙ rw q in
        let work : w' ≡ steps_work c st k fs ps = d.work ∙ rw q in
        (rw table (table_made taken), work ∙ work_left taken);
  }

  -- and what meets the words keeps the promise
  pub steps_by_words : StepsInWords c st k fs ps t w r t' w' → StepsDictionary c st k fs ps t w r t' w'
  steps_by_words i =
      let all = steps_dictionary_rules c st k fs ps (length t) (length w) in
      let says = steps_say c st k fs ps (length t) (length w) in
      let answer = by_words all says i.refused i.refuses in
      record {
        answer = answer;
        numbers = ap (λ (v : Ruling). told v done) answer;
        table = lent_by_words all says i.refused i.refuses (λ m p e. (i.nothing m p e).0) (λ q e. one_table (steps_taken c st k fs ps (length t) (length w) q) (i.made e).0);
        work = lent_by_words all says i.refused i.refuses (λ m p e. (i.nothing m p e).1) (λ q e. (i.made e).1 ∙ sym (work_left (steps_taken c st k fs ps (length t) (length w) q)));
      }

-- two results that the promise allows are equal
pub one_result : {c st : List ℕ} {k : ℕ} {fs ps t w : List ℕ} {r r₂ : Ruling} {t' t₂ w' w₂ : List ℕ}
    → StepsDictionary c st k fs ps t w r t' w'
    → StepsDictionary c st k fs ps t w r₂ t₂ w₂
    → (r ≡ r₂) × (t' ≡ t₂) × (w' ≡ w₂)
one_result p q = (cc, cc, cc)
