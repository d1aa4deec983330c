-- The work memory as searches for the faults of a list leave it one after the other, each with its budget.
-- Assumes nothing.
use Rattle.std.specs.Prelude.{List, ℕ, zero, suc, get_or}
use Rattle.lists.specs.Faults.{fault_count, fault_at}
use Rattle.search.specs.Promise.{work_for}

-- the work memory after the searches for the first i faults, where w was there: each leaves it to the next
unfoldable pub works_to : List ℕ → List ℕ → List ℕ → List ℕ → ℕ → List ℕ
works_to c fs bs w zero = w
works_to c fs bs w (suc i) = work_for c (fault_at fs i) (get_or bs i 0) (works_to c fs bs w i)

abbrev pub works_for : List ℕ → List ℕ → List ℕ → List ℕ → List ℕ
works_for c fs bs w = works_to c fs bs w (fault_count fs)
