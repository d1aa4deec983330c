-- The words in which the theorems speak of a circuit c and a fault.
-- Assumes nothing.
use Rattle.std.specs.Prelude.{List, ℕ, length}
use Rattle.circuit.specs.Record.{lines_of, inputs_of}
use Rattle.lists.specs.declared.Fault.{Fault}
use Rattle.simulate.specs.Boolean.{Vector, Detects}
use Rattle.nodes.specs.Node.{Node, start}
use Rattle.nodes.specs.Order.{trail}
use Rattle.sides.specs.Look.{look_work}
use Rattle.search.specs.Promise.{look}

-- the vector x tells good from faulty, in the Boolean meaning
abbrev pub Tells : List ℕ → Fault → Vector → Type 0
Tells c fault x = Detects c fault (lines_of c) x

-- how many nodes the search without a budget looks at
abbrev pub all_nodes : List ℕ → Fault → ℕ
all_nodes c fault = length (trail (look c fault) (start (inputs_of c)))

-- good and faulty values of a node
abbrev pub works : List ℕ → Fault → Node → List ℕ
works c fault s = look_work fault c (lines_of c) s
