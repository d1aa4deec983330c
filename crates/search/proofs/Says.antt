-- The refusals of the search in the paper's words.
-- Assumes nothing.
use mathlib.Core.Path.{◌≡◌, refl, ◌∙◌}
use mathlib.Core.List.{List}
use Prim.Native.Nat.{ℕ, ◌*◌}
use lib.ListN.{length}
use Rattle.answers.specs.Rules.{Ruling}
use Rattle.answers.specs.Rules.{Applies, AllSay}
use Rattle.answers.specs.Answer.{answered}
use Rattle.answers.proofs.Rules.{refused, both_say, same_good}
use Rattle.answers.proofs.Lent.{lent_says}
use Rattle.answers.proofs.Answer as answer
use Rattle.circuit.specs.Record.{lines_of, inputs_of}
use Rattle.circuit.specs.Promise.{circuit_rules}
use Rattle.circuit.proofs.Says.{circuit_says}
use Rattle.lists.specs.Faults.{fault_at, fault_rules}
use Rattle.lists.proofs.Faults.{faults_say}
use Rattle.nodes.specs.declared.Verdict.{Verdict}
use Rattle.search.specs.Promise.{search_rest_rules, search_rules, verdict_for, Searches}
use Rattle.std.specs.Prelude.{Ok, Err, Result}
use Rattle.answers.specs.declared.Refusal.{Refusal}
use Rattle.answers.specs.declared.Reason.{Reason}

-- ---- the rules in words

rest_says : (c f : List ℕ) (inputs lines test work : ℕ) → AllSay (search_rest_rules c f inputs lines test work)
rest_says c f inputs lines test work = both_say (fault_rules 1 c f) _ (faults_say 1 c f) (lent_says inputs test (2 * lines) work)

pub search_says : (c f : List ℕ) (test work : ℕ) → AllSay (search_rules c f test work)
search_says c f test work = both_say (circuit_rules c) _ (circuit_says c) (rest_says c f (inputs_of c) (lines_of c) test work)

-- ---- the refusals in the paper's words

-- where a verdict is answered, nothing was refused, and it is the one that is due
pub was_found : {r : Ruling} {v due : Verdict} → Ok v ≡ answered r due → (r ≡ Ok tt) × (v ≡ due)
was_found {r} {v} {due} e =
    let fine : r ≡ Ok tt = answer.was_ruled _ e refl in
    (fine, same_good (e ∙ rw fine))

module _ {c f : List ℕ} {b : ℕ} {t w : List ℕ} {r : Result Verdict Refusal} {t' w' : List ℕ} (p : Searches c f b t w r t' w') (reason : Reason) (place : ℕ) where
  -- a refusal is the first that applies, with the lowest place
  pub refused_applies : r ≡ Err (reason, place) → Applies (search_rules c f (length t) (length w)) reason place
  refused_applies = answer.refused_applies _ (search_rules c f (length t) (length w)) (search_says c f (length t) (length w)) p.answer reason place

  -- and where one applies, it is given, and nothing is written
  pub applies_refused : Applies (search_rules c f (length t) (length w)) reason place → (r ≡ Err (reason, place)) × (t' ≡ t) × (w' ≡ w)
  applies_refused a =
      let e = refused (search_rules c f (length t) (length w)) (search_says c f (length t) (length w)) reason place a in
      (p.answer ∙ rw e, p.test ∙ rw e, p.work ∙ rw e)
