-- The refusals in the paper's words: a refusal is the first that applies, with the lowest place, and where one applies it is given.
-- Assumes nothing.
use mathlib.Core.Path.{◌≡◌}
use mathlib.Core.List.{List}
use Prim.Native.Nat.{ℕ}
use lib.ListN.{length}
use Rattle.answers.specs.Rules.{Applies, AllSay}
use Rattle.answers.proofs.Rules.{both_say}
use Rattle.answers.proofs.Same.{eq_same}
use Rattle.answers.proofs.Answer as answer
use Rattle.nets.specs.Rules.{buffer_bytes}
use Rattle.bench.specs.Promise.{bench_rules}
use Rattle.bench.proofs.Says.{bench_says}
use Rattle.bench_names.specs.Promise.{place_count_rules, place_rules, names_answer, TellsNames}
use Rattle.std.specs.Prelude.{Err, Result}
use Rattle.answers.specs.declared.Refusal.{Refusal}
use Rattle.answers.specs.declared.Reason.{Reason}

room_says : (room : ℕ) → AllSay (place_count_rules room)
unfolding place_count_rules AllSay
room_says room = (eq_same room 2048, tt)

pub place_says : (t : List ℕ) (room : ℕ) → AllSay (place_rules t room)
place_says t room = both_say (bench_rules t buffer_bytes) _ (bench_says t buffer_bytes) (room_says room)

module _ {t p p' : List ℕ} {r : Result ℕ Refusal} (n : TellsNames t p p' r) (reason : Reason) (place : ℕ) where
  pub refused_applies : r ≡ Err (reason, place) → Applies (place_rules t (length p)) reason place
  unfolding names_answer
  refused_applies = answer.refused_applies _ (place_rules t (length p)) (place_says t (length p)) n.answer reason place

  pub applies_refused : Applies (place_rules t (length p)) reason place → r ≡ Err (reason, place)
  unfolding names_answer
  applies_refused = answer.applies_refused _ (place_rules t (length p)) (place_says t (length p)) n.answer reason place
