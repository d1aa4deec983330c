-- The nodes of a search in its order, and those that a search without a budget looks at.
-- Assumes nothing.
use Rattle.std.specs.Prelude.{Bool, true, false, List, [], ◌∷◌, ◌++◌, ℕ, zero, suc, eqb}
use Rattle.ground.specs.Choose.{choose}
use Rattle.nodes.specs.Node.{Node, count_x, fill}

-- what a node says: 1 fail, 0 it is left, 2 neither
abbrev pub Look : Type 0
Look = Node → ℕ

-- the nodes from s on, which has k X's, as if no fail ended the search: a node that says neither is followed by its side 0, then its side 1
unfoldable pub order : Look → ℕ → Node → List Node
order look zero s = s ∷ []
order look (suc k) s = s ∷ choose (eqb (look s) 2) (order look k (fill 0 s) ++ order look k (fill 1 s)) []

abbrev pub nodes : Look → Node → List Node
nodes look s = order look (count_x s) s

-- up to the first that fails, and with it
unfoldable pub upto : Look → List Node → List Node
upto look [] = []
upto look (s ∷ l) = s ∷ choose (eqb (look s) 1) [] (upto look l)

-- the nodes that the search without a budget looks at, in order
abbrev pub trail : Look → Node → List Node
trail look s = upto look (nodes look s)

-- whether one fails
unfoldable pub found : Look → List Node → Bool
found look [] = false
found look (s ∷ l) = choose (eqb (look s) 1) true (found look l)

-- the first that fails: the test. None: []
unfoldable pub test_in : Look → List Node → Node
test_in look [] = []
test_in look (s ∷ l) = choose (eqb (look s) 1) s (test_in look l)

abbrev pub test_of : Look → Node → Node
test_of look s = test_in look (nodes look s)

-- the last of a list, or a where there is none
unfoldable pub last_or : {A : Type 0} → A → List A → A
last_or a [] = a
last_or a (x ∷ l) = last_or x l
