-- What the functions of the search owe each other; no reader of the promises needs it.
-- Assumes nothing.
use Rattle.std.specs.Prelude.{◌≡◌, List, ℕ, length, Result}
use Rattle.answers.specs.Rules.{Rule}
use Rattle.answers.specs.Owed.{RulesDone}
use Rattle.circuit.specs.Record.{inputs_before}
use Rattle.lists.specs.declared.Fault.{Fault}
use Rattle.lists.specs.Faults.{fault_at}
use Rattle.nodes.specs.declared.Verdict.{Verdict}
use Rattle.nodes.specs.Node.{Node, IsNode}
use Rattle.nodes.specs.Order.{Look, test_of}
use Rattle.nodes.specs.Budget.{verdict_of, test_by, memory_of}
use Rattle.sides.specs.Owed.{SideReady}
use Rattle.search.specs.Promise.{search_rest_rules, verdict_for, test_for, work_for}
use Rattle.answers.specs.declared.Refusal.{Refusal}

-- what a search from s on needs, and leaves
pub record RunReady (c : List ℕ) (fault : Fault) (n : ℕ) (s : Node) (test room : ℕ) : Type 0 where
  pub ready : SideReady c fault n room
  pub node : IsNode (inputs_before c n) s
  pub test_size : test ≡ length s

pub record RunDone (look : Look) (after : Node → List ℕ) (s : Node) (b : ℕ) (t w : List ℕ) (r : Verdict) (t' w' : List ℕ) : Type 0 where
  pub verdict : r ≡ verdict_of look b s
  pub test : t' ≡ test_by r t (test_of look s)
  pub work : w' ≡ memory_of look after b w s

-- the answer and both memories afterwards, where these are the rules
abbrev pub SearchedBy : List Rule → List ℕ → Fault → ℕ → List ℕ → List ℕ → Result Verdict Refusal → List ℕ → List ℕ → Type 0
SearchedBy rules c fault b t w r t' w' =
    RulesDone {M = List ℕ × List ℕ} rules (verdict_for c fault b) (t, w) (test_for c fault b t, work_for c fault b w) r (t', w')

-- for an accepted circuit
abbrev pub SearchDone : List ℕ → List ℕ → ℕ → ℕ → ℕ → List ℕ → List ℕ → Result Verdict Refusal → List ℕ → List ℕ → Type 0
SearchDone c f inputs n b t w r t' w' = SearchedBy (search_rest_rules c f inputs n (length t) (length w)) c (fault_at f 0) b t w r t' w'
