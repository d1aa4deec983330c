-- The refusals of the clause writer in the paper's words.
-- Assumes nothing.
use mathlib.Core.Path.{◌≡◌}
use mathlib.Core.List.{List}
use Prim.Native.Nat.{ℕ}
use lib.IntN.{ℤ}
use lib.ListN.{length}
use Rattle.answers.specs.Rules.{Applies, AllSay}
use Rattle.answers.proofs.Rules.{both_say}
use Rattle.answers.proofs.Answer as answer
use Rattle.answers.proofs.Same.{le_same}
use Rattle.circuit.specs.Promise.{circuit_rules}
use Rattle.circuit.proofs.Says.{circuit_says}
use Rattle.lists.specs.Faults.{fault_at, fault_rules}
use Rattle.lists.proofs.Faults.{faults_say}
use Rattle.clauses.specs.declared.Written.{Written}
use Rattle.clauses.specs.Promise.{room_rules, words_for, clause_rules, written_of, Writes}
use Rattle.std.specs.Prelude.{Err, Result}
use Rattle.answers.specs.declared.Refusal.{Refusal}
use Rattle.answers.specs.declared.Reason.{Reason}

pub room_says : (need room : ℕ) → AllSay (room_rules need room)
unfolding room_rules AllSay
room_says need room = (le_same need room, tt)

pub clause_says : (c fs : List ℕ) (room : ℕ) → AllSay (clause_rules c fs room)
clause_says c fs room = both_say (circuit_rules c) _ (circuit_says c) (both_say (fault_rules 1 c fs) _ (faults_say 1 c fs) (room_says (length (words_for c (fault_at fs 0))) room))

module _ {c fs : List ℕ} {w w' : List ℤ} {r : Result Written Refusal} (p : Writes c fs w w' r) (reason : Reason) (place : ℕ) where
  -- a refusal is the first that applies, with the lowest place
  pub refused_applies : r ≡ Err (reason, place) → Applies (clause_rules c fs (length w)) reason place
  unfolding written_of
  refused_applies = answer.refused_applies _ (clause_rules c fs (length w)) (clause_says c fs (length w)) p.answer reason place

  -- and where one applies, it is given
  pub applies_refused : Applies (clause_rules c fs (length w)) reason place → r ≡ Err (reason, place)
  unfolding written_of
  applies_refused = answer.applies_refused _ (clause_rules c fs (length w)) (clause_says c fs (length w)) p.answer reason place
