-- What the functions of the walk for a list of faults owe each other and their callers; no reader of the promises needs it.
-- Assumes nothing.
use Rattle.std.specs.Prelude.{◌≡◌, List, ℕ, ◌<◌, length, get_or}
use Rattle.lists.specs.Faults.{fault_at}
use Rattle.lists.specs.Patterns.{pattern_at}
use Rattle.nodes.specs.Node.{Node, start}
use Rattle.standings.specs.Outcome.{Ended}
use Rattle.standings.specs.Owed.{outcome_by}
use Rattle.sides.specs.Look.{look_of}
use Rattle.meetings.specs.Owed.{Held}
use Rattle.rounds.specs.Owed.{MetNodesAt}

-- ---- the nodes from s on

pub record WalkDone (c fs bs : List ℕ) (n : ℕ) (s : Node) (level : ℕ) (h : Held) (s' : Node) (h' : Held) : Type 0 where
  pub node : s' ≡ s
  pub met : (j : ℕ) → j < length h.0 → MetNodesAt c fs bs n s level h h' j

-- ---- from reaches to outcomes, the first i of them

abbrev pub AllReach : List ℕ → List ℕ → ℕ → ℕ → Type 0
AllReach ms ks reach i = (j : ℕ) → j < i → (get_or ms j 0 ≡ reach) × (get_or ks j 0 ≡ 0)

abbrev pub BecameOutcomes : List ℕ → List ℕ → ℕ → Type 0
BecameOutcomes ms ms' i = (j : ℕ) → j < i → get_or ms' j 0 ≡ outcome_by (get_or ms j 0)

-- ---- from all X on

-- outcome, count and test of each fault, where ts was the memory for the tests
abbrev pub ListDone : List ℕ → List ℕ → List ℕ → ℕ → ℕ → List ℕ → List ℕ → List ℕ → List ℕ → Type 0
ListDone c fs bs n inputs ts os' ks' ts' =
    (j : ℕ) → j < length os'
    → Ended (look_of (fault_at fs j) c n) (get_or bs j 0) (start inputs) (pattern_at inputs ts j) (get_or os' j 0) (get_or ks' j 0) (pattern_at inputs ts' j)
