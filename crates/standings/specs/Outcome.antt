-- How a search ends, as numbers: what is answered of each fault of a list.
-- Assumes nothing.
use Rattle.std.specs.Prelude.{◌≡◌, List, ℕ}
use Rattle.nodes.specs.declared.Verdict.{Verdict}
use Rattle.nodes.specs.declared.Verdict.TheVariants.{Test, Redundant, GivenUp}
use Rattle.nodes.specs.Node.{Node}
use Rattle.nodes.specs.Order.{Look, test_of}
use Rattle.nodes.specs.Budget.{verdict_of, nodes_of, test_by}

-- 0 test, 1 redundant, 2 given up
abbrev pub outcome_of : Verdict → ℕ
outcome_of (Test k) = 0
outcome_of (Redundant k) = 1
outcome_of (GivenUp k) = 2

-- outcome, count and test of the search from s on with the budget b, where t was there
pub record Ended (look : Look) (b : ℕ) (s : Node) (t : List ℕ) (outcome count : ℕ) (test : List ℕ) : Type 0 where
  pub outcome_is : outcome ≡ outcome_of (verdict_of look b s)
  pub count_is : count ≡ nodes_of (verdict_of look b s)
  pub test_is : test ≡ test_by (verdict_of look b s) t (test_of look s)
