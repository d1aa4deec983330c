-- What a search from a node on owes its callers; no reader of the promises needs it.
-- Assumes nothing.
use Rattle.std.specs.Prelude.{◌≡◌, List, ℕ}
use Rattle.nodes.specs.declared.Verdict.{Verdict}
use Rattle.nodes.specs.declared.Verdict.TheVariants.{Test, Redundant, GivenUp}
use Rattle.nodes.specs.Node.{Node}
use Rattle.nodes.specs.Order.{Look, test_of}
use Rattle.nodes.specs.Budget.{verdict_of, memory_of}

-- what is left of the node: the test, or the node as it was
abbrev pub NodeLeft : Look → Node → Node → Verdict → Type 0
NodeLeft look s s' (Test k) = s' ≡ test_of look s
NodeLeft look s s' (Redundant k) = s' ≡ s
NodeLeft look s s' (GivenUp k) = Unit

-- the search from s on with the budget b, where the work memory was w: the answer r, and node and work memory afterwards
pub record SideDone (look : Look) (after : Node → List ℕ) (b : ℕ) (s : Node) (w : List ℕ) (r : Verdict) (s' : Node) (w' : List ℕ) : Type 0 where
  pub verdict : r ≡ verdict_of look b s
  pub memory : w' ≡ memory_of look after b w s
  pub node : NodeLeft look s s' r
