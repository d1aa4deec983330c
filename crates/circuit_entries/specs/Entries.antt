-- What the C entries of circuits, searches, clauses, bench texts and chances promise: the answer in numbers, and what lent memory holds afterwards.
-- With an answer area of another size than 32 bytes nothing is written at all (`entered`).
-- Assumes nothing.
use Rattle.std.specs.Prelude.{◌≡◌, true, false, List, ℕ, ℤ, Float, length}
use Rattle.answers.specs.Rules.{Rule, refusal, unless}
use Rattle.answers.specs.Area.{Numbers, success, told, done, Entered, entered}
use Rattle.circuit.specs.Record.{lines_of, inputs_of, outputs_of}
use Rattle.circuit.specs.Promise.{circuit_rules}
use Rattle.lists.specs.Faults.{fault_at}
use Rattle.nodes.specs.declared.Verdict.{Verdict}
use Rattle.search.specs.Promise.{search_rules, verdict_for, test_for, work_for, verdict_numbers}
use Rattle.search_heads.specs.Promise.{head_verdict_for, head_test_for, head_work_for}
use Rattle.list_search.specs.Works.{works_for}
use Rattle.search_all.specs.Promise.{outcomes_for, counts_for, tests_for, search_all_rules}
use Rattle.line_clauses.specs.Clauses.{variables_of}
use Rattle.texts.specs.Text.{places_in}
use Rattle.bench.specs.Promise.{bench_rules, records_in}
use Rattle.bench_names.specs.Promise.{place_rules}
use Rattle.ground.specs.Put.{laid_on}
use Rattle.clauses.specs.Promise.{clause_rules, clauses_for, words_for}
use Rattle.control.specs.Promise.{control_ruling, chances_of}
use Rattle.replies.specs.Entered.{LentEntered}

-- the circuit check: lines, inputs, outputs
abbrev pub check_numbers : List ℕ → Numbers
check_numbers c = told (refusal (circuit_rules c)) (success (lines_of c) (inputs_of c) (outputs_of c))

-- a search for one fault: outcome and nodes; the test buffer t and the work memory w, lent with the answer area a, become t' and w', which are to hold
-- `test` and `work`
pub record FoundEntered (rules : List Rule) (found : Verdict) (t test w work a : List ℕ) (r : ℕ) (t' w' a' : List ℕ) : Type 0 where
  pub answer : Entered a (told (refusal rules) (verdict_numbers found)) r a'
  pub test_is : t' ≡ entered a t (unless (refusal rules) t test)
  pub work_is : w' ≡ entered a w (unless (refusal rules) w work)

-- over inputs
abbrev pub SearchEntered : List ℕ → List ℕ → ℕ → List ℕ → List ℕ → List ℕ → ℕ → List ℕ → List ℕ → List ℕ → Type 0
SearchEntered c f b t w a r t' w' a' =
    FoundEntered (search_rules c f (length t) (length w)) (verdict_for c (fault_at f 0) b) t (test_for c (fault_at f 0) b t) w (work_for c (fault_at f 0) b w) a r t' w' a'

-- over head lines, where these serve the fault
abbrev pub SearchHeadsEntered : List ℕ → List ℕ → ℕ → List ℕ → List ℕ → List ℕ → ℕ → List ℕ → List ℕ → List ℕ → Type 0
SearchHeadsEntered c f b t w a r t' w' a' =
    FoundEntered (search_rules c f (length t) (length w)) (head_verdict_for c (fault_at f 0) b) t (head_test_for c (fault_at f 0) b t) w (head_work_for c (fault_at f 0) b w) a r t' w' a'

-- the search for a list of faults: done; outcomes o, counts k, tests t and the work memory w become o', k', t' and w'
pub record SearchAllEntered (c fs bs o k t w a : List ℕ) (r : ℕ) (o' k' t' w' a' : List ℕ) : Type 0 where
  pub answer : Entered a (told (refusal (search_all_rules c fs bs o k t w)) done) r a'
  pub outcomes : o' ≡ entered a o (unless (refusal (search_all_rules c fs bs o k t w)) o (outcomes_for c fs bs))
  pub counts : k' ≡ entered a k (unless (refusal (search_all_rules c fs bs o k t w)) k (counts_for c fs bs))
  pub tests : t' ≡ entered a t (unless (refusal (search_all_rules c fs bs o k t w)) t (tests_for c fs bs t))
  pub work : w' ≡ entered a w (unless (refusal (search_all_rules c fs bs o k t w)) w (works_for c fs bs w))

-- the clause writer: words, clauses and variables; the words w
abbrev pub ClausesEntered : List ℕ → List ℕ → List ℤ → List ℕ → ℕ → List ℤ → List ℕ → Type 0
ClausesEntered c f w a r w' a' =
    LentEntered (clause_rules c f (length w))
    (success (length (words_for c (fault_at f 0))) (length (clauses_for c (fault_at f 0))) (variables_of c (lines_of c)))
    w (laid_on w (words_for c (fault_at f 0))) a r w' a'

-- the reader of the bench notation: records; the buffer c
abbrev pub BenchEntered : List ℕ → List ℕ → List ℕ → ℕ → List ℕ → List ℕ → Type 0
BenchEntered t c a r c' a' = LentEntered (bench_rules t (length c)) (success (lines_of (records_in t)) 0 0) c (laid_on c (records_in t)) a r c' a'

-- the names of a text's lines: records; the places p
abbrev pub BenchNamesEntered : List ℕ → List ℕ → List ℕ → ℕ → List ℕ → List ℕ → Type 0
BenchNamesEntered t p a r p' a' = LentEntered (place_rules t (length p)) (success (lines_of (records_in t)) 0 0) p (laid_on p (places_in t)) a r p' a'

-- how hard each line is to set: done; the chances of 1 and of 0 become ones' and zeros'
pub record ControlEntered (c : List ℕ) (ones zeros : List Float) (a : List ℕ) (r : ℕ) (ones' zeros' : List Float) (a' : List ℕ) : Type 0 where
  pub answer : Entered a (told (control_ruling c ones zeros) done) r a'
  pub ones_are : ones' ≡ entered a ones (unless (control_ruling c ones zeros) ones (chances_of c true))
  pub zeros_are : zeros' ≡ entered a zeros (unless (control_ruling c ones zeros) zeros (chances_of c false))
