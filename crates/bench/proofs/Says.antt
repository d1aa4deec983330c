-- The reader's refusals in the paper's words: a refusal is the first that applies, with the lowest place, and where one applies it is given.
-- Assumes nothing.
use mathlib.Core.Path.{◌≡◌}
use mathlib.Core.List.{List}
use Prim.Native.Nat.{ℕ}
use lib.ListN.{length}
use Rattle.answers.specs.Rules.{Applies, AllSay}
use Rattle.answers.proofs.Rules.{both_say}
use Rattle.answers.proofs.Answer as answer
use Rattle.syntax.specs.Syntax.{syntax_rules}
use Rattle.syntax.proofs.Says.{syntax_says}
use Rattle.names.specs.Names.{name_rules}
use Rattle.names.proofs.Says.{names_say}
use Rattle.nets.proofs.Says.{net_says}
use Rattle.texts.specs.Text.{defs_in, uses_in, net_in}
use Rattle.bench.specs.Promise.{bench_rules, read_of, Reads}
use Rattle.std.specs.Prelude.{Err, Result}
use Rattle.answers.specs.declared.Refusal.{Refusal}
use Rattle.answers.specs.declared.Reason.{Reason}

pub bench_says : (t : List ℕ) (room : ℕ) → AllSay (bench_rules t room)
bench_says t room =
    both_say (syntax_rules t) _ (syntax_says t)
    (both_say (name_rules t (defs_in t) (uses_in t)) _ (names_say t (defs_in t) (uses_in t)) (net_says (net_in t) room))

module _ {t c c' : List ℕ} {r : Result ℕ Refusal} (p : Reads t c c' r) (reason : Reason) (place : ℕ) where
  pub refused_applies : r ≡ Err (reason, place) → Applies (bench_rules t (length c)) reason place
  unfolding read_of
  refused_applies = answer.refused_applies _ (bench_rules t (length c)) (bench_says t (length c)) p.answer reason place

  pub applies_refused : Applies (bench_rules t (length c)) reason place → r ≡ Err (reason, place)
  unfolding read_of
  applies_refused = answer.applies_refused _ (bench_rules t (length c)) (bench_says t (length c)) p.answer reason place
