-- What the functions that search the cut circuit owe each other and their callers; no reader of the promises needs it.
-- Assumes nothing.
use Rattle.std.specs.Prelude.{◌≡◌, List, ℕ, ◌*◌}
use Rattle.circuit.specs.Formed.{Known}
use Rattle.lists.specs.declared.Fault.{Fault}
use Rattle.nodes.specs.declared.Verdict.{Verdict}
use Rattle.nodes.specs.Node.{Node, IsNode, start}
use Rattle.nodes.specs.Order.{test_of}
use Rattle.nodes.specs.Budget.{verdict_of, memory_of, test_by}
use Rattle.sides.specs.Look.{look_work}
use Rattle.search.specs.Owed.{RunReady}
use Rattle.heads.specs.Heads.{heads_of}
use Rattle.heads.specs.Marks.{Marked}
use Rattle.trees.specs.Setting.{set_trees}
use Rattle.cut.specs.Cut.{cut}
use Rattle.head_verdicts.specs.Look.{head_look}

-- an accepted circuit of n lines, a fault of it that can be searched for, and its lines marked
pub record MarkedReady (c marks : List ℕ) (fault : Fault) (n test room : ℕ) : Type 0 where
  pub inputs : ℕ
  pub known : Known c n inputs
  pub run : RunReady c fault n (start inputs) test room
  pub marked : Marked c n marks

pub record SearchCutReady (c marks lines : List ℕ) (fault : Fault) (s : Node) (n test room : ℕ) : Type 0 where
  pub ready : MarkedReady c marks fault n test room
  pub node : IsNode (heads_of c n) s
  pub lines_are : lines ≡ cut c n

pub record RunCutReady (c marks : List ℕ) (lines : ℕ) (fault : Fault) (s : Node) (n test room : ℕ) : Type 0 where
  pub ready : MarkedReady c marks fault n test room
  pub node : IsNode (heads_of c n) s
  pub lines_size : lines ≡ 8 * n

pub record RunHeadsReady (c marks : List ℕ) (lines : ℕ) (fault : Fault) (n test room : ℕ) : Type 0 where
  pub ready : MarkedReady c marks fault n test room
  pub lines_size : lines ≡ 8 * n

-- what a search over head lines from s on leaves
pub record HeadRunDone (fault : Fault) (c : List ℕ) (n : ℕ) (s : Node) (b : ℕ) (t w : List ℕ) (r : Verdict) (t' w' : List ℕ) : Type 0 where
  pub verdict : r ≡ verdict_of (head_look fault c n) b s
  pub test : t' ≡ test_by r t (set_trees c n (test_of (head_look fault c n) s))
  pub work : w' ≡ memory_of (head_look fault c n) (look_work fault (cut c n) n) b w s
