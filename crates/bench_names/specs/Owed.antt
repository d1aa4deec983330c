-- What the functions of the names owe each other; no reader of the promise needs it.
-- Assumes nothing.
use Rattle.std.specs.Prelude.{List, ℕ, length, Result}
use Rattle.ground.specs.Put.{laid_on}
use Rattle.answers.specs.Owed.{RulesDone}
use Rattle.bench_names.specs.Promise.{place_count_rules}
use Rattle.answers.specs.declared.Refusal.{Refusal}

-- the answer and the places afterwards, where these were found
abbrev pub HandOverDone : List ℕ → List ℕ → List ℕ → Result ℕ Refusal → Type 0
HandOverDone found p p' r = RulesDone (place_count_rules (length p)) (length found) p (laid_on p found) r p'
