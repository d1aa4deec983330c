-- The search over head lines for a fault of a circuit c of n lines: what a node says, the verdict, the test, and the work memory.
-- Assumes nothing.
use Rattle.std.specs.Prelude.{List, ℕ}
use Rattle.lists.specs.declared.Fault.{Fault}
use Rattle.nodes.specs.declared.Verdict.{Verdict}
use Rattle.nodes.specs.Node.{start}
use Rattle.nodes.specs.Order.{Look, test_of}
use Rattle.nodes.specs.Budget.{verdict_of, memory_of}
use Rattle.sides.specs.Look.{look_of, look_work}
use Rattle.heads.specs.Heads.{heads_of}
use Rattle.trees.specs.Setting.{set_trees}
use Rattle.cut.specs.Cut.{cut}

-- a node has a value for each head line: it says of the fault what it says in the cut circuit
abbrev pub head_look : Fault → List ℕ → ℕ → Look
head_look fault c n = look_of fault (cut c n) n

abbrev pub head_verdict : Fault → List ℕ → ℕ → ℕ → Verdict
head_verdict fault c n b = verdict_of (head_look fault c n) b (start (heads_of c n))

-- the node that fails, with its trees set
unfoldable pub head_test : Fault → List ℕ → ℕ → List ℕ
head_test fault c n = set_trees c n (test_of (head_look fault c n) (start (heads_of c n)))

-- the work memory, where w was there
abbrev pub head_memory : Fault → List ℕ → ℕ → ℕ → List ℕ → List ℕ
head_memory fault c n b w = memory_of (head_look fault c n) (look_work fault (cut c n) n) b w (start (heads_of c n))
