-- The words in which the theorems speak of the search over head lines, of a circuit c and a fault.
-- Assumes nothing.
use Rattle.std.specs.Prelude.{List, ℕ, length}
use Rattle.circuit.specs.Record.{lines_of}
use Rattle.lists.specs.declared.Fault.{Fault}
use Rattle.nodes.specs.Node.{Node, start}
use Rattle.nodes.specs.Order.{trail}
use Rattle.sides.specs.Look.{look_work}
use Rattle.heads.specs.Heads.{heads_of}
use Rattle.cut.specs.Cut.{cut}
use Rattle.head_verdicts.specs.Look.{head_look}

-- how many head lines there are
abbrev pub head_count : List ℕ → ℕ
head_count c = heads_of c (lines_of c)

-- the nodes that the search over head lines looks at without a budget, and how many
abbrev pub head_trail : List ℕ → Fault → List Node
head_trail c fault = trail (head_look fault c (lines_of c)) (start (head_count c))

abbrev pub all_head_nodes : List ℕ → Fault → ℕ
all_head_nodes c fault = length (head_trail c fault)

-- good and faulty values of a node of head lines
abbrev pub head_works : List ℕ → Fault → Node → List ℕ
head_works c fault s = look_work fault (cut c (lines_of c)) (lines_of c) s
