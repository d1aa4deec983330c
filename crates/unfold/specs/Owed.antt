-- What the functions of the unfolding owe each other and their callers; no reader of the promises needs it.
-- Assumes nothing.
use Rattle.std.specs.Prelude.{◌≡◌, List, ℕ, ◌+◌, ◌*◌, ◌≤◌, ◌<◌, leb, length, get_or, Result}
use Rattle.ground.specs.Choose.{choose, one}
use Rattle.ground.specs.Lists.{gather}
use Rattle.answers.specs.Owed.{RulesDone}
use Rattle.gates.specs.Gate.{pins_of}
use Rattle.circuit.specs.Record.{lines_of, inputs_of, kind_at, pin_at, Inside}
use Rattle.circuit.specs.Formed.{Lower, WellFormed}
use Rattle.states.specs.States.{state_count, data_line, state_record, is_data}
use Rattle.states.specs.Rules.{lines_after, GoodSteps}
use Rattle.states.specs.Owed.{StateInside}
use Rattle.unfolded.specs.Unfolded.{step_record, unfolded}
use Rattle.unfold.specs.declared.Unfolding.{Unfolding}
use Rattle.unfold.specs.Promise.{unfold_room_rules, unfolding_is}
use Rattle.answers.specs.declared.Refusal.{Refusal}

-- ---- what the whole asks for

-- a circuit of n lines that is accepted, and steps and state records that are
pub record UnfoldingReady (c st : List ℕ) (n k : ℕ) : Type 0 where
  pub lines : n ≡ lines_of c
  pub well : WellFormed c (inputs_of c) (lines_of c)
  pub steps : GoodSteps c st k

-- and room for just the records of all lines
pub record UnfoldReady (c st : List ℕ) (n k : ℕ) (u : List ℕ) : Type 0 where
  pub ready : UnfoldingReady c st n k
  pub room : length u ≡ 8 * lines_after c k

-- what comes of the buffer's rule, where nothing else is refused
abbrev pub RoomDone : List ℕ → List ℕ → ℕ → List ℕ → Result Unfolding Refusal → List ℕ → Type 0
RoomDone c st k u r u' = RulesDone (unfold_room_rules c k (length u)) (unfolding_is (lines_after c k)) u (unfolded c st k) r u'

-- ---- a mark at each data line

pub record MarkDataReady (st marks : List ℕ) : Type 0 where
  pub unset : (m : ℕ) → get_or marks m 0 ≡ 0
  pub whole : length st ≡ 4 * state_count st
  pub inside : (r : ℕ) → r < state_count st → data_line st r < length marks

abbrev pub MarkDataDone : List ℕ → List ℕ → Type 0
MarkDataDone st marks = (m : ℕ) → m < length marks → get_or marks m 0 ≡ one (is_data st m)

-- and memory for the marks, with none set
pub record UnfoldInReady (c st : List ℕ) (n k : ℕ) (marks u : List ℕ) : Type 0 where
  pub all : UnfoldReady c st n k u
  pub marks_long : length marks ≡ n
  pub unset : (m : ℕ) → get_or marks m 0 ≡ 0

-- ---- the record of a line

-- the steps, and the data lines marked
pub record DataMarkedReady (c st marks : List ℕ) (n k : ℕ) : Type 0 where
  pub ready : UnfoldingReady c st n k
  pub marks_long : length marks ≡ n
  pub marked : MarkDataDone st marks

-- line m of step i is one of the lines
pub record StepLineReady (c st marks : List ℕ) (n k i m : ℕ) : Type 0 where
  pub has : DataMarkedReady c st marks n k
  pub step : i < k
  pub line : m < n

-- the record by whose data line it holds a value in step i, or their number
unfoldable pub held_by : List ℕ → ℕ → ℕ → ℕ
held_by st i m = choose (leb 1 i) (state_record st m) (state_count st)

-- a pin that the kind has reads so many lines further on, one that it lacks nothing
unfoldable pub moved_pin : List ℕ → ℕ → ℕ → ℕ → ℕ
moved_pin c m s further = choose (leb s (pins_of (kind_at c m))) (further + pin_at c m s) 0

-- the sources of line m are lower, and can be so many lines further on
pub record MovedReady (c : List ℕ) (m further : ℕ) : Type 0 where
  pub inside : Inside c m
  pub lower : (kind_at c m ≡ 0 → ⊥) → Lower c m
  pub few : further + m ≤ 2048

-- there is a record r, and its data line can be so many lines further on
pub record HeldReady (st : List ℕ) (r before : ℕ) : Type 0 where
  pub inside : StateInside st r
  pub few : before + data_line st r ≤ 2048

-- the first l records of step i
abbrev pub step_to : List ℕ → List ℕ → ℕ → ℕ → ℕ → List ℕ
step_to c st k i l = gather (step_record c st k i) l
