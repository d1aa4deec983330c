-- Where the search for a fault stands, node by node; and the reach by which one walk through the nodes serves many faults. No reader of the promises needs it.
-- Assumes nothing.
use Rattle.std.specs.Prelude.{◌≡◌, Bool, true, false, List, [], ◌∷◌, ℕ, suc, ◌≤◌, ◌<◌, eqb, leb}
use Rattle.ground.specs.Choose.{choose}
use Rattle.nodes.specs.declared.Verdict.{Verdict}
use Rattle.nodes.specs.declared.Verdict.TheVariants.{Test, Redundant, GivenUp}
use Rattle.nodes.specs.Node.{Node}
use Rattle.nodes.specs.Order.{Look, nodes}

-- the outcome so far, which is 1 until a test is found or the budget is spent; the nodes looked at; the test buffer
abbrev pub Standing : Type 0
Standing = ℕ × ℕ × List ℕ

-- a search that goes on looks at the node s, with the budget b
abbrev pub looked : Look → ℕ → Node → ℕ → List ℕ → Standing
looked look b s k t = choose (leb b k) (2, k, t) (choose (eqb (look s) 1) (0, suc k, s) (1, suc k, t))

-- at the nodes l, one after the other: a search that has ended stays as it is
unfoldable pub past : Look → ℕ → List Node → Standing → Standing
past look b [] st = st
past look b (s ∷ l) st = past look b l (choose (eqb st.0 1) (looked look b s st.1 st.2) st)

-- a reach from 3 on says that the search goes on, and 0 and 2 how it has ended
abbrev pub outcome_by : ℕ → ℕ
outcome_by reach = choose (leb 3 reach) 1 reach

-- A fault looks at the nodes of a level within its reach. With the reach m, the count k and the test buffer t it comes to the nodes l, of that level
-- or a higher one, and leaves them with m', k' and t': as it came if it does not look there; otherwise it has looked at them, and if it goes on, it looks at this level again.
pub record Met (look : Look) (b level : ℕ) (l : List Node) (m k : ℕ) (t : List ℕ) (m' k' : ℕ) (t' : List ℕ) : Type 0 where
  pub asleep : m < level → (m' ≡ m) × (k' ≡ k) × (t' ≡ t)
  pub awake : level ≤ m → (outcome_by m', k', t') ≡ past look b l (1, k, t)
  pub again : level ≤ m → outcome_by m' ≡ 1 → level ≤ m'

-- at the node s alone; farther than its level reach those that s says neither of, and so look at its sides
pub record MetNode (look : Look) (b level : ℕ) (s : Node) (m k : ℕ) (t : List ℕ) (m' k' : ℕ) (t' : List ℕ) : Type 0 where
  pub met : Met look b level (s ∷ []) m k t m' k' t'
  pub sides : level ≤ m → level < m' → look s ≡ 2
  pub left : level ≤ m → outcome_by m' ≡ 1 → m' ≤ level → look s ≡ 2 → ⊥

-- how far a fault reaches after the nodes from a node of this level on, by the verdict on them: redundant there, its search goes on at this level
abbrev pub reach_by : ℕ → Verdict → ℕ
reach_by level (Test k) = 0
reach_by level (Redundant k) = level
reach_by level (GivenUp k) = 2

-- alone through the nodes from s on, or at the node s together with others
pub record MetBy (alone : Bool) (look : Look) (b level : ℕ) (s : Node) (m k : ℕ) (t : List ℕ) (m' k' : ℕ) (t' : List ℕ) : Type 0 where
  pub nodes_met : alone ≡ true → Met look b level (nodes look s) m k t m' k' t'
  pub node_met : alone ≡ false → MetNode look b level s m k t m' k' t'
