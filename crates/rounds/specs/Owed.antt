-- What a round at a node owes its callers, and what it asks; no reader of the promises needs it.
-- Assumes nothing.
use Rattle.std.specs.Prelude.{Bool, false, List, ℕ, ◌+◌, ◌≤◌, ◌<◌, leb, length, get_or}
use Rattle.lists.specs.Faults.{fault_at}
use Rattle.lists.specs.Patterns.{pattern_at}
use Rattle.nodes.specs.Node.{Node, IsNode, count_x, FirstX}
use Rattle.nodes.specs.Order.{nodes}
use Rattle.standings.specs.Owed.{Met}
use Rattle.sides.specs.Look.{look_of}
use Rattle.meetings.specs.Owed.{ListReady, Held, MetAt}

-- fault j looks at a level
abbrev pub looks_at : List ℕ → ℕ → ℕ → Bool
looks_at ms level j = leb level (get_or ms j 0)

-- with n inputs the start is at level 3, and the nodes without X at level n + 3
pub record WalkReady (c fs : List ℕ) (n : ℕ) (s : Node) (level budgets reaches counts tests room : ℕ) : Type 0 where
  pub list : ListReady c fs n (length s) budgets reaches counts tests room
  pub node : IsNode (length s) s
  pub levels : 3 ≤ level
  pub most : level + count_x s ≤ 67

-- fault j comes to the nodes from s on
abbrev pub MetNodesAt : List ℕ → List ℕ → List ℕ → ℕ → Node → ℕ → Held → Held → ℕ → Type 0
MetNodesAt c fs bs n s level h h' j =
    Met (look_of (fault_at fs j) c n) (get_or bs j 0) level (nodes (look_of (fault_at fs j) c n) s)
    (get_or h.0 j 0) (get_or h.1 j 0) (pattern_at (length s) h.2 j) (get_or h'.0 j 0) (get_or h'.1 j 0) (pattern_at (length s) h'.2 j)

-- one round at the node s: either the sides of its first X come next, or nothing is left to look at
pub record RoundDone (c fs bs : List ℕ) (n : ℕ) (s : Node) (level : ℕ) (h : Held) (at : ℕ) (h' : Held) : Type 0 where
  pub first : at < length s → FirstX s at
  pub met : at < length s → (j : ℕ) → j < length h.0 → MetAt false c fs bs n s level h h' j
  pub over : length s ≤ at → (j : ℕ) → j < length h.0 → MetNodesAt c fs bs n s level h h' j
