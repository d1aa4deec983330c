-- A fault that goes through the nodes from a node on alone.
-- Assumes nothing.
use mathlib.Core.Path.{◌≡◌}
use mathlib.Core.Bool.{Bool}
use mathlib.Core.List.{List}
use Prim.Native.Nat.{ℕ, ◌≤◌}
use lib.ListN.{length}
use Rattle.lists.specs.declared.Fault.{Fault}
use Rattle.nodes.specs.declared.Verdict.{Verdict}
use Rattle.nodes.specs.Node.{Node}
use Rattle.nodes.specs.Order.{Look, nodes}
use Rattle.nodes.specs.Budget.{verdict_of, nodes_of}
use Rattle.nodes.proofs.Verdicts.{says, within}
use Rattle.search.specs.Owed.{RunReady}
use Rattle.meetings.specs.Owed.{MeetReady, MeetDone}

-- what its search asks
pub run_ready : {alone : Bool} {c : List ℕ} {fault : Fault} {n : ℕ} {s : Node} {level test : ℕ} {w : List ℕ}
    → MeetReady alone c fault n s level test w
    → (length s ≤ 64) × RunReady c fault n s test (length w)
run_ready p = (
  p.most,
  record {
    ready = record { shaped = rw p.shaped.inputs_are p.shaped; line = p.line; value = p.value; looks = rw p.shaped.inputs_are p.looks; two = p.two };
    node = rw p.shaped.inputs_are p.node;
    test_size = p.size;
  },
)

-- its nodes are within what is left of the budget
pub nodes_fit : (look : Look) (b : ℕ) (s : Node) {r : Verdict} → r ≡ verdict_of look b s → nodes_of r ≤ b
nodes_fit look b s {r} e = within look b (nodes look s) r (says look b (nodes look s) e)

-- whether alone or not
pub ready_so : {alone so : Bool} {c : List ℕ} {fault : Fault} {n : ℕ} {s : Node} {level test : ℕ} {w : List ℕ}
    → alone ≡ so
    → MeetReady alone c fault n s level test w
    → MeetReady so c fault n s level test w
ready_so e p = rw (← e) p

pub done_so : {alone so : Bool} {c : List ℕ} {fault : Fault} {n : ℕ} {s : Node} {level k b : ℕ} {t : List ℕ} {m' k' : ℕ} {t' w' : List ℕ}
    → so ≡ alone
    → MeetDone so c fault n s level k b t m' k' t' w'
    → MeetDone alone c fault n s level k b t m' k' t' w'
done_so e p = rw (← e) p
