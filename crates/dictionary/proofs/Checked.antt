-- All that an engine checks, in order: tests and words of the rules agree, and what is not refused is good.
-- Assumes nothing.
use mathlib.Core.Path.{◌≡◌, refl, sym, ap, ◌∙◌}
use mathlib.Core.List.{List}
use Prim.Native.Nat.{ℕ, ◌*◌}
use Rattle.answers.specs.Rules.{Ruling}
use Rattle.answers.specs.Rules.{refusal, AllSay}
use Rattle.answers.proofs.Rules.{after_refused, after_fine, same_after, both_fine, both_say, same_good}
use Rattle.answers.proofs.Answer.{was_ruled, ruling_of}
use Rattle.answers.proofs.Lent.{lent_says, lent_sizes, second_exact}
use Rattle.circuit.specs.declared.Counts.{Counts}
use Rattle.circuit.specs.Record.{lines_of, inputs_of, outputs_of}
use Rattle.circuit.specs.Promise.{circuit_rules, counts_are}
use Rattle.circuit.specs.Formed.{Good, Accepts}
use Rattle.circuit.proofs.Says.{circuit_says}
use Rattle.circuit.proofs.Accepted.{good}
use Rattle.lists.specs.Faults.{fault_count, GoodFaults}
use Rattle.lists.specs.Patterns.{pattern_count, GoodPatterns}
use Rattle.lists.specs.Both.{list_rules}
use Rattle.lists.proofs.Both.{lists_say, good_lists}
use Rattle.dictionary.specs.Promise.{dictionary_rest_rules, dictionary_rules}
use Rattle.dictionary.specs.Owed.{AllChecked}
use Rattle.std.specs.Prelude.{Ok, Err, Result}
use Rattle.answers.specs.declared.Refusal.{Refusal}
use Rattle.answers.specs.declared.Reason.{Reason}

-- what is not refused
pub record Taken (places : ℕ) (c fs ps : List ℕ) (table work : ℕ) : Type 0 where
  pub fine : refusal (dictionary_rules places c fs ps table work) ≡ Ok tt
  pub circuit_fine : refusal (circuit_rules c) ≡ Ok tt
  pub lists_fine : refusal (list_rules c (inputs_of c) fs ps) ≡ Ok tt
  pub good : Good c
  pub faults : GoodFaults 256 c fs
  pub patterns : GoodPatterns (inputs_of c) ps
  pub table_is : table ≡ fault_count fs * pattern_count (inputs_of c) ps
  pub work_is : work ≡ places * lines_of c

-- what is checked after the circuit: m inputs, and work memory of this size
pub record RestTaken (size : ℕ) (c : List ℕ) (m : ℕ) (fs ps : List ℕ) (table work : ℕ) : Type 0 where
  pub lists_fine : refusal (list_rules c m fs ps) ≡ Ok tt
  pub faults : GoodFaults 256 c fs
  pub patterns : GoodPatterns m ps
  pub table_is : table ≡ fault_count fs * pattern_count m ps
  pub work_is : work ≡ size

module _ (size : ℕ) (c : List ℕ) (m : ℕ) (fs ps : List ℕ) (table work : ℕ) where
  pub rest_says : AllSay (dictionary_rest_rules size c m fs ps table work)
  rest_says = both_say (list_rules c m fs ps) _ (lists_say c m fs ps) (lent_says (fault_count fs * pattern_count m ps) table size work)

  pub rest_taken : refusal (dictionary_rest_rules size c m fs ps table work) ≡ Ok tt → RestTaken size c m fs ps table work
  rest_taken e =
      let b = both_fine (list_rules c m fs ps) _ e in
      let lists = good_lists c m fs ps b.0 in
      let sizes = lent_sizes (fault_count fs * pattern_count m ps) table size work b.1 in
      record { lists_fine = b.0; faults = lists.0; patterns = lists.1; table_is = sizes.0; work_is = sizes.1 }

module _ (places : ℕ) (c fs ps : List ℕ) (table work : ℕ) where
  pub dictionary_says : AllSay (dictionary_rules places c fs ps table work)
  dictionary_says = both_say (circuit_rules c) _ (circuit_says c) (rest_says (places * lines_of c) c (inputs_of c) fs ps table work)

  pub taken : refusal (dictionary_rules places c fs ps table work) ≡ Ok tt → Taken places c fs ps table work
  taken e =
      let a = both_fine (circuit_rules c) _ e in
      let rest = rest_taken (places * lines_of c) c (inputs_of c) fs ps table work a.1 in
      record {
        fine = e;
        circuit_fine = a.0;
        lists_fine = rest.lists_fine;
        good = good c a.0;
        faults = rest.faults;
        patterns = rest.patterns;
        table_is = rest.table_is;
        work_is = rest.work_is;
      }

  -- of an accepted circuit
  rest_decides : {n m o : ℕ} → Accepts c n m o → refusal (dictionary_rules places c fs ps table work) ≡ refusal (dictionary_rest_rules (places * n) c m fs ps table work)
  rest_decides k = rw (k.lines, k.inputs) (after_fine (circuit_rules c) _ k.fine)

-- ---- the answer of the checks

module _ {places : ℕ} {c fs ps : List ℕ} {table work : ℕ} where
  pub circuit_refused : {why : Refusal} → refusal (circuit_rules c) ≡ Err why → AllChecked places c fs ps table work (Err why)
  circuit_refused e = record { answer = rw (after_refused (circuit_rules c) (dictionary_rest_rules (places * lines_of c) c (inputs_of c) fs ps table work) e) }

  module _ {n m o : ℕ} (k : Accepts c n m o) where
    pub rest_refused : {why : Refusal} → refusal (dictionary_rest_rules (places * n) c m fs ps table work) ≡ Err why → AllChecked places c fs ps table work (Err why)
    rest_refused e = record { answer = rw (rest_decides places c fs ps table work k ∙ e) }

    pub all_fine : refusal (dictionary_rest_rules (places * n) c m fs ps table work) ≡ Ok tt → AllChecked places c fs ps table work (Ok (counts_are n m o))
    all_fine e = record { answer = rw (rest_decides places c fs ps table work k ∙ e, k.lines, k.inputs, k.outputs) }

  module _ {r : Result Counts Refusal} (p : AllChecked places c fs ps table work r) where
    was : refusal (dictionary_rules places c fs ps table work) ≡ ruling_of r
    was = was_ruled _ p.answer refl

    pub all_refuses : {why : Refusal} → r ≡ Err why → refusal (dictionary_rules places c fs ps table work) ≡ Err why
    all_refuses told = was ∙ ap ruling_of told

    pub all_accepts : {n m o : ℕ} → r ≡ Ok (counts_are n m o) → Taken places c fs ps table work × (n ≡ lines_of c) × (m ≡ inputs_of c)
    all_accepts {n} {m} {o} told =
        let q : refusal (dictionary_rules places c fs ps table work) ≡ Ok tt = was ∙ ap ruling_of told in
        let so : counts_are n m o ≡ counts_are (lines_of c) (inputs_of c) (outputs_of c) = same_good (sym told ∙ p.answer ∙ rw q) in
        (taken places c fs ps table work q, ap (λ (a : Counts). a.lines) so, ap (λ (a : Counts). a.inputs) so)

-- two engines refuse the same, where each has a work memory of its size and the tables are as long
pub alike : (a b : ℕ) (c fs ps : List ℕ) {table table₂ work work₂ : ℕ}
    → table ≡ table₂
    → work ≡ a * lines_of c
    → work₂ ≡ b * lines_of c
    → refusal (dictionary_rules a c fs ps table work) ≡ refusal (dictionary_rules b c fs ps table₂ work₂)
alike a b c fs ps same p q =
    rw (same, p, q)
    (same_after (circuit_rules c) _ _
    (same_after (list_rules c (inputs_of c) fs ps) _ _ (second_exact (fault_count fs * pattern_count (inputs_of c) ps) _ (a * lines_of c) (b * lines_of c))))
