-- What the functions of the search from a node on owe each other and their callers; no reader of the promises needs it.
-- Assumes nothing.
use Rattle.std.specs.Prelude.{◌≡◌, List, ℕ, ◌+◌, ◌≤◌, ◌<◌, take}
use Rattle.circuit.specs.Record.{inputs_before}
use Rattle.lists.specs.declared.Fault.{Fault}
use Rattle.simulate.specs.Work.{good_of}
use Rattle.simulate.specs.Owed.{Shaped, AllSmall}
use Rattle.nodes.specs.Node.{Node}
use Rattle.nodes.specs.Walk.{Looks}
use Rattle.sides.specs.Look.{look_of, look_work}

-- a circuit of n lines, a fault on one of them that is stuck at 0 or 1, of which a node without X always says something, and room for two values a line
pub record SideReady (c : List ℕ) (fault : Fault) (n room : ℕ) : Type 0 where
  pub shaped : Shaped c (inputs_before c n) n
  pub line : fault.line < n
  pub value : fault.value ≤ 1
  pub looks : Looks (inputs_before c n) (look_of fault c n)
  pub two : room ≡ n + n

pub record VisitDone (fault : Fault) (c : List ℕ) (n : ℕ) (s : Node) (r : ℕ) (w' : List ℕ) : Type 0 where
  pub says : r ≡ look_of fault c n s
  pub work : w' ≡ look_work fault c n s

-- where the first half of w has the good values of whatever node of 0, 1 and X
abbrev pub LookDone : Fault → List ℕ → ℕ → List ℕ → ℕ → List ℕ → Type 0
LookDone fault c n w r w' = (s : Node) → AllSmall s → take n w ≡ good_of c s n → VisitDone fault c n s r w'
