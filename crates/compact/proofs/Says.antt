-- The compactor's refusals in the paper's words.
-- Assumes nothing.
use mathlib.Core.Path.{◌≡◌}
use mathlib.Core.List.{List}
use Prim.Native.Nat.{ℕ}
use Rattle.answers.specs.Rules.{Applies}
use Rattle.answers.specs.Rules.{Ruling}
use Rattle.answers.proofs.Rules as rules
use Rattle.tables.specs.Marks.{kept_rules}
use Rattle.tables.proofs.Says.{kept_say}
use Rattle.compact.specs.Promise.{Compacts}
use Rattle.std.specs.Prelude.{Err}
use Rattle.answers.specs.declared.Reason.{Reason}

-- a refusal is the first that applies, with the lowest place; and where one applies, it is given
module _ (F P : ℕ) (t m : List ℕ) {r : Ruling} {m' : List ℕ} (so : Compacts F P t m r m') (reason : Reason) (place : ℕ) where
  pub refused_applies : r ≡ Err (reason, place) → Applies (kept_rules F P t m) reason place
  refused_applies = rules.refused_applies (kept_rules F P t m) (kept_say F P t m) so.answer reason place

  pub applies_refused : Applies (kept_rules F P t m) reason place → r ≡ Err (reason, place)
  applies_refused = rules.applies_refused (kept_rules F P t m) (kept_say F P t m) so.answer reason place
