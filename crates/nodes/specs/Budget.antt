-- The verdict of a search with a budget, and the work memory that it leaves.
-- Assumes nothing.
use Rattle.std.specs.Prelude.{List, map, ℕ, leb, length, take}
use Rattle.ground.specs.Choose.{choose}
use Rattle.nodes.specs.declared.Verdict.{Verdict}
use Rattle.nodes.specs.declared.Verdict.TheVariants.{Test, Redundant, GivenUp}
use Rattle.nodes.specs.Node.{Node}
use Rattle.nodes.specs.Order.{Look, nodes, upto, found, last_or}

-- the verdict on nodes in order, with the budget b: given up exactly if the search without a budget looks at more than b
unfoldable pub verdict_in : Look → ℕ → List Node → Verdict
verdict_in look b l =
    choose (leb (length (upto look l)) b)
    (choose (found look l) (Test (length (upto look l))) (Redundant (length (upto look l))))
    (GivenUp b)

abbrev pub verdict_of : Look → ℕ → Node → Verdict
verdict_of look b s = verdict_in look b (nodes look s)

-- its number of nodes
abbrev pub nodes_of : Verdict → ℕ
nodes_of (Test k) = k
nodes_of (Redundant k) = k
nodes_of (GivenUp k) = k

-- a test or redundant
abbrev pub Decided : Verdict → Type 0
Decided (Test k) = Unit
Decided (Redundant k) = Unit
Decided (GivenUp k) = ⊥

-- the work memory, where `after s` is what looking at s leaves there and w was there: that of the last of at most b nodes looked at
unfoldable pub memory_in : Look → (Node → List ℕ) → ℕ → List ℕ → List Node → List ℕ
memory_in look after b w l = last_or w (map after (take b (upto look l)))

abbrev pub memory_of : Look → (Node → List ℕ) → ℕ → List ℕ → Node → List ℕ
memory_of look after b w s = memory_in look after b w (nodes look s)

-- the test buffer, where t was there: written only for a test
abbrev pub test_by : Verdict → List ℕ → Node → List ℕ
test_by (Test k) t test = test
test_by (Redundant k) t test = t
test_by (GivenUp k) t test = t
