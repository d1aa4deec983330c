-- What the functions that bring faults to a node owe each other and their callers; no reader of the promises needs it.
-- Assumes nothing.
use Rattle.std.specs.Prelude.{◌≡◌, Bool, false, List, ℕ, ◌+◌, ◌*◌, ◌≤◌, ◌<◌, length, get_or, take}
use Rattle.lists.specs.declared.Fault.{Fault}
use Rattle.lists.specs.Faults.{fault_line, fault_value, fault_at}
use Rattle.lists.specs.Patterns.{pattern_at}
use Rattle.simulate.specs.Work.{good_of}
use Rattle.simulate.specs.Owed.{Shaped}
use Rattle.nodes.specs.Node.{Node, IsNode}
use Rattle.nodes.specs.Walk.{Looks}
use Rattle.standings.specs.Owed.{MetBy}
use Rattle.sides.specs.Look.{look_of}

-- ---- one fault at one node

-- alone, or together with others: then the good values stand in the work memory
pub record MeetReady (alone : Bool) (c : List ℕ) (fault : Fault) (n : ℕ) (s : Node) (level test : ℕ) (w : List ℕ) : Type 0 where
  pub shaped : Shaped c (length s) n
  pub line : fault.line < n
  pub value : fault.value ≤ 1
  pub looks : Looks (length s) (look_of fault c n)
  pub two : length w ≡ n + n
  pub good : alone ≡ false → take n w ≡ good_of c s n
  pub node : IsNode (length s) s
  pub most : length s ≤ 64
  pub size : test ≡ length s
  pub levels : 3 ≤ level
  pub below : level < 255

-- whatever its reach was, if it was as far as this level; the good values stay where it is not alone
pub record MeetDone (alone : Bool) (c : List ℕ) (fault : Fault) (n : ℕ) (s : Node) (level k b : ℕ) (t : List ℕ) (m' k' : ℕ) (t' w' : List ℕ) : Type 0 where
  pub met : (m : ℕ) → level ≤ m → MetBy alone (look_of fault c n) b level s m k t m' k' t'
  pub good : alone ≡ false → take n w' ≡ good_of c s n

-- ---- a list of faults at one node

-- a circuit of n lines, faults on them that are stuck at 0 or 1, of which a node without X always says something, a budget for each, and room for the
-- outcome, the count and the test of each and for two values a line
pub record ListReady (c fs : List ℕ) (n inputs budgets outcomes counts tests room : ℕ) : Type 0 where
  pub shaped : Shaped c inputs n
  pub faults : 8 * outcomes ≤ length fs
  pub lines : (j : ℕ) → j < outcomes → fault_line fs j < n
  pub values : (j : ℕ) → j < outcomes → fault_value fs j ≤ 1
  pub looks : (j : ℕ) → j < outcomes → Looks inputs (look_of (fault_at fs j) c n)
  pub most : inputs ≤ 64
  pub most_lines : n ≤ 2048
  pub most_faults : outcomes ≤ 256
  pub budgets_are : outcomes ≤ budgets
  pub counts_are : counts ≡ outcomes
  pub tests_are : tests ≡ outcomes * inputs
  pub two : room ≡ n + n

-- the reaches, the counts, and the tests, n bytes each
abbrev pub Held : Type 0
Held = List ℕ × List ℕ × List ℕ

-- fault j stands the same in both
pub record SameAt (inputs : ℕ) (h h' : Held) (j : ℕ) : Type 0 where
  pub reach : get_or h'.0 j 0 ≡ get_or h.0 j 0
  pub count : get_or h'.1 j 0 ≡ get_or h.1 j 0
  pub test : pattern_at inputs h'.2 j ≡ pattern_at inputs h.2 j

-- fault j comes to the node s
abbrev pub MetAt : Bool → List ℕ → List ℕ → List ℕ → ℕ → Node → ℕ → Held → Held → ℕ → Type 0
MetAt alone c fs bs n s level h h' j =
    MetBy alone (look_of (fault_at fs j) c n) (get_or bs j 0) level s
    (get_or h.0 j 0) (get_or h.1 j 0) (pattern_at (length s) h.2 j) (get_or h'.0 j 0) (get_or h'.1 j 0) (pattern_at (length s) h'.2 j)

pub record MeetAllReady (alone : Bool) (c fs : List ℕ) (n : ℕ) (s : Node) (level budgets reaches counts tests : ℕ) (w : List ℕ) : Type 0 where
  pub list : ListReady c fs n (length s) budgets reaches counts tests (length w)
  pub node : IsNode (length s) s
  pub good : alone ≡ false → take n w ≡ good_of c s n
  pub levels : 3 ≤ level
  pub below : level < 255

pub record MeetAtDone (alone : Bool) (c fs bs : List ℕ) (n : ℕ) (s : Node) (level i : ℕ) (h h' : Held) (w' : List ℕ) : Type 0 where
  pub met : MetAt alone c fs bs n s level h h' i
  pub others : (j : ℕ) → j < length h.0 → (j ≡ i → ⊥) → SameAt (length s) h h' j
  pub good : alone ≡ false → take n w' ≡ good_of c s n

abbrev pub MeetAllDone : Bool → List ℕ → List ℕ → List ℕ → ℕ → Node → ℕ → Held → Held → Type 0
MeetAllDone alone c fs bs n s level h h' = (j : ℕ) → j < length h.0 → MetAt alone c fs bs n s level h h' j
