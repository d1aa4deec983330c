-- The test search for all faults of a list in one call: its refusals, what it answers, and what it promises.
-- Assumes nothing.
use Rattle.std.specs.Prelude.{◌≡◌, List, [], ◌∷◌, ◌++◌, ℕ, ◌*◌, length, get_or}
use Rattle.ground.specs.Lists.{table, gather}
use Rattle.answers.specs.Rules.{Ruling}
use Rattle.answers.specs.Rules.{Rule, refusal, unless}
use Rattle.answers.specs.Lent.{exact}
use Rattle.answers.specs.Area.{told, done}
use Rattle.circuit.specs.Record.{lines_of, inputs_of}
use Rattle.circuit.specs.Promise.{circuit_rules}
use Rattle.lists.specs.Faults.{fault_count, fault_at, fault_rules}
use Rattle.lists.specs.Patterns.{pattern_at}
use Rattle.nodes.specs.declared.Verdict.{Verdict}
use Rattle.nodes.specs.Budget.{nodes_of}
use Rattle.standings.specs.Outcome.{outcome_of}
use Rattle.search.specs.Promise.{verdict_for, test_for}
use Rattle.list_search.specs.Works.{works_for}

-- ---- the refusals

-- one budget, one outcome and one count a fault, a test byte an input and fault, and two bytes a line of work memory
unfoldable pub list_lent_rules : ℕ → ℕ → ℕ → ℕ → ℕ → ℕ → ℕ → ℕ → List Rule
list_lent_rules faults inputs lines budgets outcomes counts tests work =
    exact faults budgets ∷ exact faults outcomes ∷ exact faults counts ∷ exact (faults * inputs) tests ∷ exact (2 * lines) work ∷ []

-- what is checked after the circuit: the fault list, as the dictionary has it, and the exact sizes
abbrev pub search_all_rest_rules : List ℕ → List ℕ → ℕ → ℕ → ℕ → ℕ → ℕ → ℕ → ℕ → List Rule
search_all_rest_rules c fs inputs lines budgets outcomes counts tests work =
    fault_rules 256 c fs ++ list_lent_rules (fault_count fs) inputs lines budgets outcomes counts tests work

abbrev pub search_all_rules : List ℕ → List ℕ → List ℕ → List ℕ → List ℕ → List ℕ → List ℕ → List Rule
search_all_rules c fs bs o k t w =
    circuit_rules c ++ search_all_rest_rules c fs (inputs_of c) (lines_of c) (length bs) (length o) (length k) (length t) (length w)

-- ---- the search of an accepted circuit for each fault of a list, with a budget for each

abbrev pub verdict_at : List ℕ → List ℕ → List ℕ → ℕ → Verdict
verdict_at c fs bs i = verdict_for c (fault_at fs i) (get_or bs i 0)

-- one outcome and one count a fault: 0 test, 1 redundant, 2 given up, and the nodes
unfoldable pub outcomes_for : List ℕ → List ℕ → List ℕ → List ℕ
outcomes_for c fs bs = table (λ i. outcome_of (verdict_at c fs bs i)) (fault_count fs)

unfoldable pub counts_for : List ℕ → List ℕ → List ℕ → List ℕ
counts_for c fs bs = table (λ i. nodes_of (verdict_at c fs bs i)) (fault_count fs)

-- a byte an input for each fault, where t was there: written only for a test
unfoldable pub tests_for : List ℕ → List ℕ → List ℕ → List ℕ → List ℕ
tests_for c fs bs t = gather (λ i. test_for c (fault_at fs i) (get_or bs i 0) (pattern_at (inputs_of c) t i)) (fault_count fs)

-- ---- the promise

-- whatever the bytes, where o, k, t and w were lent, and r, o', k', t' and w' come back: the answer, its number and values, and every byte lent
pub record SearchesAll (c fs bs o k t w : List ℕ) (r : Ruling) (o' k' t' w' : List ℕ) : Type 0 where
  pub answer : r ≡ refusal (search_all_rules c fs bs o k t w)
  pub numbers : told r done ≡ told (refusal (search_all_rules c fs bs o k t w)) done
  pub outcomes : o' ≡ unless (refusal (search_all_rules c fs bs o k t w)) o (outcomes_for c fs bs)
  pub counts : k' ≡ unless (refusal (search_all_rules c fs bs o k t w)) k (counts_for c fs bs)
  pub tests : t' ≡ unless (refusal (search_all_rules c fs bs o k t w)) t (tests_for c fs bs t)
  pub work : w' ≡ unless (refusal (search_all_rules c fs bs o k t w)) w (works_for c fs bs w)
