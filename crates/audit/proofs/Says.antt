-- The refusals of the audit in the paper's words.
-- Assumes nothing.
use mathlib.Core.Path.{◌≡◌}
use mathlib.Core.List.{List}
use Prim.Native.Nat.{ℕ}
use Rattle.answers.specs.Rules.{Applies}
use Rattle.answers.proofs.Answer as answer
use Rattle.tables.specs.Marks.{kept_rules}
use Rattle.tables.proofs.Says.{kept_say}
use Rattle.findings.specs.declared.Finding.{Finding}
use Rattle.audit.specs.Promise.{Audits}
use Rattle.std.specs.Prelude.{Err, Result}
use Rattle.answers.specs.declared.Refusal.{Refusal}
use Rattle.answers.specs.declared.Reason.{Reason}

-- a refusal is the first that applies, with the lowest place; and where one applies, it is given
module _ {F P : ℕ} {t m : List ℕ} {r : Result Finding Refusal} (p : Audits F P t m r) (reason : Reason) (place : ℕ) where
  pub refused_applies : r ≡ Err (reason, place) → Applies (kept_rules F P t m) reason place
  refused_applies = answer.refused_applies _ (kept_rules F P t m) (kept_say F P t m) p.answer reason place

  pub applies_refused : Applies (kept_rules F P t m) reason place → r ≡ Err (reason, place)
  applies_refused = answer.applies_refused _ (kept_rules F P t m) (kept_say F P t m) p.answer reason place
