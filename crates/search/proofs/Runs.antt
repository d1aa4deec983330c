-- What a search from a node on asks and leaves, of an equal node.
-- Assumes nothing.
use mathlib.Core.Path.{◌≡◌}
use mathlib.Core.List.{List}
use Prim.Native.Nat.{ℕ}
use Rattle.lists.specs.declared.Fault.{Fault}
use Rattle.nodes.specs.declared.Verdict.{Verdict}
use Rattle.nodes.specs.Node.{Node}
use Rattle.nodes.specs.Order.{Look}
use Rattle.search.specs.Owed.{RunReady, RunDone}

pub runs_of : {c : List ℕ} {fault : Fault} {n : ℕ} {s s2 : Node} {test room : ℕ} → s ≡ s2 → RunReady c fault n s test room → RunReady c fault n s2 test room
runs_of e p = rw (← e) p

pub ran_of : {look : Look} {after : Node → List ℕ} {s s2 : Node} {b : ℕ} {t w : List ℕ} {r : Verdict} {t' w' : List ℕ}
    → s ≡ s2
    → RunDone look after s b t w r t' w' → RunDone look after s2 b t w r t' w'
ran_of e p = rw (← e) p
