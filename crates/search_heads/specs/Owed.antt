-- What the functions of the search over head lines owe each other; no reader of the promises needs it.
-- Assumes nothing.
use Rattle.std.specs.Prelude.{◌≡◌, Bool, ◌&&◌, ◌||◌, List, ℕ, ◌*◌, eqb, length, replicate, Result}
use Rattle.answers.specs.Rules.{Rule}
use Rattle.answers.specs.Owed.{RulesDone}
use Rattle.circuit.specs.Formed.{Known}
use Rattle.lists.specs.declared.Fault.{Fault}
use Rattle.lists.specs.Faults.{fault_at}
use Rattle.nodes.specs.declared.Verdict.{Verdict}
use Rattle.nodes.specs.Node.{start}
use Rattle.search.specs.Promise.{search_rest_rules}
use Rattle.search.specs.Owed.{RunReady}
use Rattle.heads.specs.Marks.{Marked}
use Rattle.search_heads.specs.Promise.{head_verdict_for, head_test_for, head_work_for}
use Rattle.answers.specs.declared.Refusal.{Refusal}

-- ---- the one search or the other

unfoldable pub served_by : ℕ → ℕ → Bool
served_by mark site = eqb mark 2 || (eqb mark 1 && eqb site 0)

pub record EitherReady (c marks : List ℕ) (lines : ℕ) (fault : Fault) (n inputs test room : ℕ) : Type 0 where
  pub known : Known c n inputs
  pub run : RunReady c fault n (start inputs) test room
  pub marked : Marked c n marks
  pub lines_size : lines ≡ 8 * n

pub record EitherDone (c : List ℕ) (fault : Fault) (b : ℕ) (t w : List ℕ) (r : Verdict) (t' w' : List ℕ) : Type 0 where
  pub verdict : r ≡ head_verdict_for c fault b
  pub test : t' ≡ head_test_for c fault b t
  pub work : w' ≡ head_work_for c fault b w

-- ---- from an accepted circuit on

pub record HeadsReady (c : List ℕ) (fault : Fault) (n inputs test room : ℕ) : Type 0 where
  pub known : Known c n inputs
  pub run : RunReady c fault n (start inputs) test room

-- memory that is all 0, for n lines, which are as many as the marks
pub record RoomReady (c reads marks : List ℕ) (lines : ℕ) (fault : Fault) (inputs test room : ℕ) : Type 0 where
  pub ready : HeadsReady c fault (length marks) inputs test room
  pub long : length reads ≡ length marks
  pub none_read : reads ≡ replicate (length reads) 0
  pub none_marked : marks ≡ replicate (length marks) 0
  pub lines_size : lines ≡ 8 * length marks

-- the answer and both memories afterwards, where these are the rules
abbrev pub HeadSearchedBy : List Rule → List ℕ → Fault → ℕ → List ℕ → List ℕ → Result Verdict Refusal → List ℕ → List ℕ → Type 0
HeadSearchedBy rules c fault b t w r t' w' =
    RulesDone {M = List ℕ × List ℕ} rules (head_verdict_for c fault b) (t, w) (head_test_for c fault b t, head_work_for c fault b w) r (t', w')

-- for an accepted circuit
abbrev pub HeadSearchDone : List ℕ → List ℕ → ℕ → ℕ → ℕ → List ℕ → List ℕ → Result Verdict Refusal → List ℕ → List ℕ → Type 0
HeadSearchDone c f inputs n b t w r t' w' = HeadSearchedBy (search_rest_rules c f inputs n (length t) (length w)) c (fault_at f 0) b t w r t' w'
