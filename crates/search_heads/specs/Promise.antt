-- The search that decides head lines only, as a part: what it answers, and what it promises. Its refusals are those of the search.
-- A fault that it serves is searched over head lines; for every other the answer is the very one of the search.
-- Assumes nothing.
use Rattle.std.specs.Prelude.{◌≡◌, Bool, List, ℕ, length, Result}
use Rattle.ground.specs.Choose.{choose}
use Rattle.answers.specs.Rules.{refusal, unless}
use Rattle.answers.specs.Answer.{answered}
use Rattle.answers.specs.Area.{told}
use Rattle.circuit.specs.Record.{lines_of}
use Rattle.lists.specs.declared.Fault.{Fault}
use Rattle.lists.specs.Faults.{fault_at}
use Rattle.nodes.specs.declared.Verdict.{Verdict}
use Rattle.nodes.specs.Budget.{test_by}
use Rattle.search.specs.Promise.{search_rules, verdict_for, test_for, work_for, verdict_numbers, searched_numbers}
use Rattle.cut.specs.Cut.{heads_serve}
use Rattle.head_verdicts.specs.Look.{head_verdict, head_test, head_memory}
use Rattle.answers.specs.declared.Refusal.{Refusal}

abbrev pub served : List ℕ → Fault → Bool
served c fault = heads_serve c (lines_of c) fault

unfoldable pub head_verdict_for : List ℕ → Fault → ℕ → Verdict
head_verdict_for c fault b = choose (served c fault) (head_verdict fault c (lines_of c) b) (verdict_for c fault b)

-- the test buffer, where t was there
unfoldable pub head_test_for : List ℕ → Fault → ℕ → List ℕ → List ℕ
head_test_for c fault b t = choose (served c fault) (test_by (head_verdict fault c (lines_of c) b) t (head_test fault c (lines_of c))) (test_for c fault b t)

-- the work memory, where w was there
unfoldable pub head_work_for : List ℕ → Fault → ℕ → List ℕ → List ℕ
head_work_for c fault b w = choose (served c fault) (head_memory fault c (lines_of c) b w) (work_for c fault b w)

-- the promise, whatever the bytes, where t and w were lent, and t' and w' come back
pub record HeadSearches (c f : List ℕ) (b : ℕ) (t w : List ℕ) (r : Result Verdict Refusal) (t' w' : List ℕ) : Type 0 where
  pub answer : r ≡ answered (refusal (search_rules c f (length t) (length w))) (head_verdict_for c (fault_at f 0) b)
  pub numbers : searched_numbers r ≡ told (refusal (search_rules c f (length t) (length w))) (verdict_numbers (head_verdict_for c (fault_at f 0) b))
  pub test : t' ≡ unless (refusal (search_rules c f (length t) (length w))) t (head_test_for c (fault_at f 0) b t)
  pub work : w' ≡ unless (refusal (search_rules c f (length t) (length w))) w (head_work_for c (fault_at f 0) b w)
