-- The promise of the unfolding in the request's words; the record `UnfoldingMade` is proved to say the same.
-- Assumes nothing.
use Rattle.std.specs.Prelude.{◌≡◌, List, ℕ, length, Ok, Err, Result}
use Rattle.answers.specs.Rules.{Applies}
use Rattle.states.specs.Rules.{lines_after}
use Rattle.unfolded.specs.Words.{Unfolds}
use Rattle.unfold.specs.declared.Unfolding.{Unfolding}
use Rattle.unfold.specs.Promise.{unfold_rules, unfolding_is}
use Rattle.answers.specs.declared.Refusal.{Refusal}
use Rattle.answers.specs.declared.Reason.{Reason}

pub record UnfoldingInWords (c st : List ℕ) (k : ℕ) (u : List ℕ) (r : Result Unfolding Refusal) (u' : List ℕ) : Type 0 where
  -- refused exactly when a rule applies, with the first that does and its lowest place
  pub refused : (reason : Reason) (place : ℕ) → r ≡ Err (reason, place) → Applies (unfold_rules c st k (length u)) reason place
  pub refuses : (reason : Reason) (place : ℕ) → Applies (unfold_rules c st k (length u)) reason place → r ≡ Err (reason, place)
  -- a refusal writes nothing
  pub nothing : (reason : Reason) (place : ℕ) → r ≡ Err (reason, place) → u' ≡ u
  -- otherwise the number of lines is told, and the circuit is unfolded
  pub made : (n : ℕ) → r ≡ Ok (unfolding_is n) → (n ≡ lines_after c k) × Unfolds c st k u'
