-- The refusals of the search for a list in the paper's words.
-- Assumes nothing.
use mathlib.Core.Path.{◌≡◌, ◌∙◌}
use mathlib.Core.List.{List}
use Prim.Native.Nat.{ℕ}
use lib.ListN.{length}
use Rattle.answers.specs.Rules.{Ruling}
use Rattle.answers.specs.Rules.{Applies, AllSay}
use Rattle.answers.proofs.Rules as rules
use Rattle.answers.proofs.Rules.{refused, both_say}
use Rattle.circuit.specs.Record.{lines_of, inputs_of}
use Rattle.circuit.specs.Promise.{circuit_rules}
use Rattle.circuit.proofs.Says.{circuit_says}
use Rattle.search_all.specs.Promise.{search_all_rules, SearchesAll}
use Rattle.search_all.proofs.Answer.{rest_say}
use Rattle.std.specs.Prelude.{Err}
use Rattle.answers.specs.declared.Reason.{Reason}

-- ---- the rules in words

pub search_all_says : (c fs bs o k t w : List ℕ) → AllSay (search_all_rules c fs bs o k t w)
search_all_says c fs bs o k t w =
    both_say (circuit_rules c) _ (circuit_says c) (rest_say c fs (inputs_of c) (lines_of c) (length bs) (length o) (length k) (length t) (length w))

-- ---- the refusals in the paper's words

module _ {c fs bs o k t w : List ℕ} {r : Ruling} {o' k' t' w' : List ℕ} (p : SearchesAll c fs bs o k t w r o' k' t' w') (reason : Reason) (place : ℕ) where
  -- a refusal is the first that applies, with the lowest place
  pub refused_applies : r ≡ Err (reason, place) → Applies (search_all_rules c fs bs o k t w) reason place
  refused_applies = rules.refused_applies (search_all_rules c fs bs o k t w) (search_all_says c fs bs o k t w) p.answer reason place

  -- and where one applies, it is given, and nothing is written
  pub applies_refused : Applies (search_all_rules c fs bs o k t w) reason place → (r ≡ Err (reason, place)) × (o' ≡ o) × (k' ≡ k) × (t' ≡ t) × (w' ≡ w)
  applies_refused a =
      let e = refused (search_all_rules c fs bs o k t w) (search_all_says c fs bs o k t w) reason place a in
      (p.answer ∙ e, p.outcomes ∙ rw e, p.counts ∙ rw e, p.tests ∙ rw e, p.work ∙ rw e)
