-- What a function owes once its rules are known; no reader of the promises needs it.
-- Assumes nothing.
use Rattle.std.specs.Prelude.{◌≡◌, List, Result}
use Rattle.answers.specs.declared.Refusal.{Refusal}
use Rattle.answers.specs.Rules.{Rule, refusal, unless}
use Rattle.answers.specs.Answer.{answered}

-- where m was lent, and r and m' come back: the answer, and the new memory unless something is refused; a part's promise says it with the names
-- of its own memory
pub record RulesDone {A M : Type 0} (rules : List Rule) (good : A) (m new : M) (r : Result A Refusal) (m' : M) : Type 0 where
  pub answer : r ≡ answered (refusal rules) good
  pub memory : m' ≡ unless (refusal rules) m new
