-- From words to a promise: what refuses exactly when a rule applies gives the ruling of its rules, and memory that a refusal leaves and nothing else does is
-- told by that ruling.
-- Assumes nothing.
use mathlib.Core.Path.{◌≡◌, refl, sym, ◌∙◌}
use mathlib.Core.List.{List}
use Prim.Native.Nat.{ℕ}
use Rattle.answers.specs.Rules.{Rule, refusal, Applies, AllSay, unless}
use Rattle.answers.specs.Rules.{Ruling}
use Rattle.answers.proofs.Rules.{applies, refused, not_fine}
use Rattle.std.specs.Prelude.{Ok, Err}
use Rattle.answers.specs.declared.Reason.{Reason}

module _ (rules : List Rule) (says : AllSay rules) {r : Ruling}
    (first : (reason : Reason) (place : ℕ) → r ≡ Err (reason, place) → Applies rules reason place)
    (given : (reason : Reason) (place : ℕ) → Applies rules reason place → r ≡ Err (reason, place)) where
  was_fine : (v : Ruling) → r ≡ v → refusal rules ≡ Ok tt → r ≡ Ok tt
  was_fine (Ok u) e q = e
  was_fine (Err why) e q = absurd (not_fine (sym q ∙ refused rules says why.0 why.1 (first why.0 why.1 e)))

  ruled : (v : Ruling) → refusal rules ≡ v → r ≡ v
  ruled (Ok u) q = was_fine r refl q
  ruled (Err why) q = given why.0 why.1 (applies rules says why.0 why.1 q)

  pub by_words : r ≡ refusal rules
  by_words = ruled (refusal rules) refl

  -- of memory of any kind
  pub memory_by_words : {M : Type 0} {old new left : M}
      → ((reason : Reason) (place : ℕ) → r ≡ Err (reason, place) → new ≡ old)
      → (refusal rules ≡ Ok tt → r ≡ Ok tt → new ≡ left)
      → new ≡ unless (refusal rules) old left
  memory_by_words {old = old} {new = new} {left = left} stays becomes = go (refusal rules) refl
    where
      go : (v : Ruling) → refusal rules ≡ v → new ≡ unless v old left
      go (Ok u) q = becomes q (by_words ∙ q)
      go (Err why) q = stays why.0 why.1 (by_words ∙ q)

  pub lent_by_words : {old new left : List ℕ}
      → ((reason : Reason) (place : ℕ) → r ≡ Err (reason, place) → new ≡ old)
      → (refusal rules ≡ Ok tt → r ≡ Ok tt → new ≡ left)
      → new ≡ unless (refusal rules) old left
  lent_by_words stays becomes = memory_by_words stays becomes
