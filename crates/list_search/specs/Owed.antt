-- What the functions of the search for a list owe each other and their callers; no reader of the promises needs it.
-- Assumes nothing.
use Rattle.std.specs.Prelude.{◌≡◌, List, ℕ, ◌+◌, ◌*◌, ◌-◌, ◌≤◌, ◌<◌, length, get_or}
use Rattle.circuit.specs.Formed.{Known}
use Rattle.lists.specs.Faults.{fault_count, fault_at, GoodFaults}
use Rattle.lists.specs.Patterns.{pattern_at}
use Rattle.nodes.specs.Node.{start}
use Rattle.nodes.specs.Budget.{memory_of}
use Rattle.standings.specs.Outcome.{Ended}
use Rattle.sides.specs.Look.{look_of, look_work}
use Rattle.meetings.specs.Owed.{Held, SameAt}
use Rattle.list_search.specs.Works.{works_for}

-- ---- before a search

-- from the place r on every budget is 0, and the one before it is not
pub record AfterLast (bs : List ℕ) (r : ℕ) : Type 0 where
  pub inside : r ≤ length bs
  pub none : (j : ℕ) → r ≤ j → get_or bs j 0 ≡ 0
  pub last : 0 < r → 0 < get_or bs (r - 1) 0

-- an accepted circuit and a good list, with a budget for each fault, and room for its results
pub record SearchesReady (c fs : List ℕ) (n inputs budgets outcomes counts tests room : ℕ) : Type 0 where
  pub known : Known c n inputs
  pub faults : GoodFaults 256 c fs
  pub budgets_are : budgets ≡ fault_count fs
  pub outcomes_are : outcomes ≡ fault_count fs
  pub counts_are : counts ≡ fault_count fs
  pub tests_are : tests ≡ fault_count fs * inputs
  pub two : room ≡ n + n

-- ---- after a search, where h was there: outcomes, counts and tests

-- fault j has its results
abbrev pub EndedAt : List ℕ → List ℕ → List ℕ → ℕ → ℕ → Held → Held → ℕ → Type 0
EndedAt c fs bs n inputs h h' j =
    Ended (look_of (fault_at fs j) c n) (get_or bs j 0) (start inputs) (pattern_at inputs h.2 j) (get_or h'.0 j 0) (get_or h'.1 j 0) (pattern_at inputs h'.2 j)

-- those below `last` have theirs
pub record OthersDone (c fs bs : List ℕ) (n inputs last : ℕ) (h h' : Held) : Type 0 where
  pub ended : (j : ℕ) → j < last → EndedAt c fs bs n inputs h h' j
  pub same : (j : ℕ) → last ≤ j → SameAt inputs h h' j

-- the fault `at` alone has
pub record OneDone (c fs bs : List ℕ) (n inputs at : ℕ) (h : Held) (w : List ℕ) (h' : Held) (w' : List ℕ) : Type 0 where
  pub ended : EndedAt c fs bs n inputs h h' at
  pub same : (j : ℕ) → (j ≡ at → ⊥) → SameAt inputs h h' j
  pub work : w' ≡ memory_of (look_of (fault_at fs at) c n) (look_work (fault_at fs at) c n) (get_or bs at 0) w (start inputs)

-- all have
pub record AllEnded (c fs bs : List ℕ) (n inputs : ℕ) (h : Held) (w : List ℕ) (h' : Held) (w' : List ℕ) : Type 0 where
  pub ended : (j : ℕ) → j < fault_count fs → EndedAt c fs bs n inputs h h' j
  pub work : w' ≡ works_for c fs bs w
