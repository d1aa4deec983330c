-- Part 4, the test search: its refusals, what it answers, and what it promises.
-- Assumes nothing.
use Rattle.std.specs.Prelude.{◌≡◌, List, ◌++◌, ℕ, ◌*◌, length, Ok, Err, Result}
use Rattle.answers.specs.Rules.{Rule, refusal, unless}
use Rattle.answers.specs.Lent.{lent_rules}
use Rattle.answers.specs.Answer.{answered}
use Rattle.answers.specs.Area.{Numbers, success, in_numbers, told}
use Rattle.circuit.specs.Record.{lines_of, inputs_of}
use Rattle.circuit.specs.Promise.{circuit_rules}
use Rattle.lists.specs.declared.Fault.{Fault}
use Rattle.lists.specs.Faults.{fault_at, fault_rules}
use Rattle.nodes.specs.declared.Verdict.{Verdict}
use Rattle.nodes.specs.declared.Verdict.TheVariants as verdict
use Rattle.nodes.specs.Node.{start}
use Rattle.nodes.specs.Order.{Look, test_of}
use Rattle.nodes.specs.Budget.{verdict_of, test_by, memory_of}
use Rattle.sides.specs.Look.{look_of, look_work}
use Rattle.answers.specs.declared.Refusal.{Refusal}

-- ---- the refusals

-- exactly one fault record; the test buffer has a byte an input, the work memory two a line
abbrev pub search_rest_rules : List ℕ → List ℕ → ℕ → ℕ → ℕ → ℕ → List Rule
search_rest_rules c f inputs lines test work = fault_rules 1 c f ++ lent_rules inputs test (2 * lines) work

abbrev pub search_rules : List ℕ → List ℕ → ℕ → ℕ → List Rule
search_rules c f test work = circuit_rules c ++ search_rest_rules c f (inputs_of c) (lines_of c) test work

-- ---- the search of an accepted circuit for a fault, from all X on

abbrev pub look : List ℕ → Fault → Look
look c fault = look_of fault c (lines_of c)

unfoldable pub verdict_for : List ℕ → Fault → ℕ → Verdict
verdict_for c fault b = verdict_of (look c fault) b (start (inputs_of c))

-- the test buffer, where t was there
unfoldable pub test_for : List ℕ → Fault → ℕ → List ℕ → List ℕ
test_for c fault b t = test_by (verdict_for c fault b) t (test_of (look c fault) (start (inputs_of c)))

-- the work memory, where w was there
unfoldable pub work_for : List ℕ → Fault → ℕ → List ℕ → List ℕ
work_for c fault b w = memory_of (look c fault) (look_work fault c (lines_of c)) b w (start (inputs_of c))

-- ---- the answer

-- the paper's number and values for each case: 0 test, 1 redundant, 2 given up, then the nodes
abbrev pub verdict_numbers : Verdict → Numbers
verdict_numbers (verdict.Test k) = success 0 k 0
verdict_numbers (verdict.Redundant k) = success 1 k 0
verdict_numbers (verdict.GivenUp k) = success 2 k 0

unfoldable pub searched_numbers : Result Verdict Refusal → Numbers
searched_numbers = in_numbers verdict_numbers

-- the promise, whatever the bytes, where t and w were lent, and t' and w' come back
pub record Searches (c f : List ℕ) (b : ℕ) (t w : List ℕ) (r : Result Verdict Refusal) (t' w' : List ℕ) : Type 0 where
  pub answer : r ≡ answered (refusal (search_rules c f (length t) (length w))) (verdict_for c (fault_at f 0) b)
  pub numbers : searched_numbers r ≡ told (refusal (search_rules c f (length t) (length w))) (verdict_numbers (verdict_for c (fault_at f 0) b))
  pub test : t' ≡ unless (refusal (search_rules c f (length t) (length w))) t (test_for c (fault_at f 0) b t)
  pub work : w' ≡ unless (refusal (search_rules c f (length t) (length w))) w (work_for c (fault_at f 0) b w)
