-- The search in the paper's own words, as a relation: the nodes that a search looks at without a budget, how it ends, and its verdict with one.
-- Proved to be what `trail`, `test_of` and `verdict_of` compute.
-- Assumes nothing.
use Rattle.std.specs.Prelude.{◌≡◌, List, [], ◌∷◌, ◌++◌, ℕ, ◌≤◌, ◌<◌, length, set}
use Rattle.nodes.specs.declared.Verdict.{Verdict}
use Rattle.nodes.specs.declared.Verdict.TheVariants.{Test, Redundant, GivenUp}
use Rattle.nodes.specs.Node.{Node, IsNode, count_x, FirstX}
use Rattle.nodes.specs.Order.{Look}

-- what is asked of what a node says: a node of n inputs says fail, left or neither; and neither only with an X
pub record Looks (n : ℕ) (look : Look) : Type 0 where
  pub three : (s : Node) → IsNode n s → look s ≤ 2
  pub unknown : (s : Node) → IsNode n s → look s ≡ 2 → 0 < count_x s

-- a search ends with a node as its test, or is finished without one
pub data Ending : Type 0 where
  tested : Node → Ending
  finished : Ending

pub data Walk (look : Look) : Node → List Node → Ending → Type 0 where
  -- if it fails, answer this node as the test
  fail : {s : Node} → look s ≡ 1 → Walk look s (s ∷ []) (tested s)
  -- leave the node
  leave : {s : Node} → look s ≡ 0 → Walk look s (s ∷ []) finished
  -- otherwise the first X input is set, first to 0: a test there is answered
  first : {s t : Node} {x : ℕ} {l : List Node} → look s ≡ 2 → FirstX s x → Walk look (set s x 0) l (tested t) → Walk look s (s ∷ l) (tested t)
  -- and, when that side is finished, to 1
  second : {s : Node} {x : ℕ} {l m : List Node} {e : Ending}
      → look s ≡ 2
      → FirstX s x
      → Walk look (set s x 0) l finished
      → Walk look (set s x 1) m e
      → Walk look s (s ∷ (l ++ m)) e

-- a test or redundant, with so many nodes
abbrev pub verdict_by : Ending → ℕ → Verdict
verdict_by (tested t) k = Test k
verdict_by finished k = Redundant k

-- the answer r of a search from s on with the budget b
pub record Answers (look : Look) (b : ℕ) (s : Node) (r : Verdict) : Type 0 where
  pub looked : List Node
  pub ending : Ending
  pub walk : Walk look s looked ending
  pub gives_up : b < length looked → r ≡ GivenUp b
  pub decides : length looked ≤ b → r ≡ verdict_by ending (length looked)
