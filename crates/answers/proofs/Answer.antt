-- One law of an answer, whatever its good case: its numbers are those that its ruling tells, and it refuses exactly when a rule applies.
-- And what is done with the rules, whatever the memory: a step's rules first, then those after it.
-- Assumes nothing.
use mathlib.Core.Path.{◌≡◌, refl, sym, ap, ◌∙◌}
use mathlib.Core.List.{List, ◌++◌}
use Prim.Native.Nat.{ℕ}
use Rattle.std.proofs.lemmas.Result.{err_from_is_err_and}
use Rattle.answers.specs.Rules.{Ruling}
use Rattle.answers.specs.Rules.{Rule, refusal, Applies, AllSay, unless}
use Rattle.answers.specs.Area.{Numbers, in_numbers, told}
use Rattle.answers.specs.Answer.{answered}
use Rattle.answers.specs.Owed.{RulesDone}
use Rattle.answers.proofs.Rules.{applies, refused, after_refused, after_fine}
use Rattle.std.specs.Prelude.{IsErrAnd, Ok, Err, Result}
use Rattle.answers.specs.declared.Refusal.{Refusal}
use Rattle.answers.specs.declared.Reason.{Reason}

-- the numbers of an answer are those of its ruling
pub numbers-told : {A : Type 0} (good_numbers : A → Numbers) (v : Ruling) (good : A) → in_numbers good_numbers (answered v good) ≡ told v (good_numbers good)
numbers-told good_numbers (Ok u) good = refl
numbers-told good_numbers (Err why) good = refl

-- an answer says which ruling it was made of
abbrev pub ruling_of : {A : Type 0} → Result A Refusal → Ruling
ruling_of (Ok good) = Ok tt
ruling_of (Err why) = Err why

module _ {A : Type 0} (good : A) where
  pub ruling : (v : Ruling) → ruling_of (answered v good) ≡ v
  ruling (Ok u) = refl
  ruling (Err why) = refl

  -- so what it says of an answer is what was ruled
  pub was_ruled : {v w : Ruling} {r : Result A Refusal} → r ≡ answered v good → ruling_of r ≡ w → v ≡ w
  was_ruled {v} is says = sym (ap ruling_of is ∙ ruling v) ∙ says

  module _ (rules : List Rule) (says : AllSay rules) {r : Result A Refusal} (is : r ≡ answered (refusal rules) good) (reason : Reason) (place : ℕ) where
    -- a refusal is the first that applies, with the lowest place
    pub refused_applies : r ≡ Err (reason, place) → Applies rules reason place
    refused_applies e = applies rules says reason place (was_ruled is (ap ruling_of e))

    -- and where one applies, it is given
    pub applies_refused : Applies rules reason place → r ≡ Err (reason, place)
    applies_refused a = is ∙ ap (λ (v : Ruling). answered v good) (refused rules says reason place a)

-- a refusal that `?` hands on is the one that it was given
pub handed_on : {A : Type 0} {r : Result A Refusal} {why : Refusal} → IsErrAnd r (λ e. e ≡ why) → r ≡ Err why
handed_on {r = r} h = let p = err_from_is_err_and r h in p.1 ∙ ap Err p.2

-- a ruling is an answer too
pub ruling_is : (v : Ruling) → answered v tt ≡ v
ruling_is (Ok u) = refl
ruling_is (Err why) = refl

-- ---- what is done with the rules

module _ {A M : Type 0} {good : A} {m new : M} where
  -- a refusal is the answer, and leaves the memory
  pub refused_done : {rules : List Rule} {why : Refusal} → refusal rules ≡ Err why → RulesDone rules good m new (Err why) m
  refused_done e = record { answer = rw e; memory = rw e }

  -- where there is none, the good case is, with the new memory
  pub fine_done : {rules : List Rule} {r : Result A Refusal} {m' : M} → refusal rules ≡ Ok tt → r ≡ Ok good → m' ≡ new → RulesDone rules good m new r m'
  fine_done e is new_is = record { answer = rw e is; memory = rw e new_is }

  -- a refusal ends it; where there is none, the rules after it decide
  pub first_refused : (rules more : List Rule) {why : Refusal} → refusal rules ≡ Err why → RulesDone (rules ++ more) good m new (Err why) m
  first_refused rules more e = refused_done (after_refused rules more e)

  pub first_fine : (rules more : List Rule) {r : Result A Refusal} {m' : M} → refusal rules ≡ Ok tt → RulesDone more good m new r m' → RulesDone (rules ++ more) good m new r m'
  first_fine rules more e p = record { answer = rw (after_fine rules more e) p.answer; memory = rw (after_fine rules more e) p.memory }

  -- two memories are one, a pair: each part of it is as it would be alone
  pub memory_part : {K : Type 0} (part : M → K) {rules : List Rule} {r : Result A Refusal} {m' : M} → RulesDone rules good m new r m' → part m' ≡ unless (refusal rules) (part m) (part new)
  memory_part part {rules} p = ap part p.memory ∙ go (refusal rules)
    where
      go : (v : Ruling) → part (unless v m new) ≡ unless v (part m) (part new)
      go (Ok u) = refl
      go (Err why) = refl
