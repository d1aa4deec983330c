-- What the functions of the lines in lanes owe each other and their callers; no reader of the promises needs it.
-- Assumes nothing.
use Rattle.std.specs.Prelude.{◌≡◌, List, ℕ, ◌+◌, ◌*◌, ◌≤◌, ◌<◌, length, get_or, take}
use Rattle.gates.specs.Gate.{last_kind}
use Rattle.circuit.specs.Record.{kind_at, inputs_before}
use Rattle.circuit.specs.Formed.{WellFormed}
use Rattle.lane_inputs.specs.Owed.{GroupReady}
use Rattle.lanes.specs.declared.Lanes.{Lanes}
use Rattle.lanes.specs.Lanes.{laid}
use Rattle.lists.specs.declared.Fault.{Fault}
use Rattle.simulate.specs.Simulate.{Forcing}
use Rattle.simulate.specs.Owed.{Ordered, StepsReady, input_or, line_in, Any, SimulateDone, SimulateFaultDone, ForcedDone}
use Rattle.lane_lines.specs.Lines.{lane_pattern, good_words, both_words_under}

-- the words of line k
abbrev pub lanes_at : List ℕ → ℕ → Lanes
lanes_at w k = record { ones = get_or w (2 * k) 0; zeros = get_or w (2 * k + 1) 0 }

-- both words of line k are there
pub record PairInside (w : List ℕ) (k : ℕ) : Type 0 where
  pub inside : 2 * k + 2 ≤ length w

-- w has the words of n lines, where lane i has the values vs i
pub record Carries (vs : ℕ → List ℕ) (n : ℕ) (w : List ℕ) : Type 0 where
  pub long : length w ≡ 2 * n
  pub values : (i : ℕ) → length (vs i) ≡ n
  pub lines : (k : ℕ) → k < n → lanes_at w k ≡ laid (λ i. get_or (vs i) k 0)

-- n lines, every gate above its sources, and so many words
pub record LinesReady (c : List ℕ) (n room : ℕ) : Type 0 where
  pub ordered : Ordered c n
  pub kinds : (k : ℕ) → k < n → kind_at c k ≤ last_kind
  pub two : room ≡ 2 * n

-- ---- one line

-- the value of line k in every lane, whatever forces values
abbrev pub LineDone : Forcing → List ℕ → ℕ → List ℕ → ℕ → Lanes → Type 0
LineDone f c n w k r = (vs : ℕ → List ℕ) → Carries vs n w → r ≡ laid (λ i. line_in f c (vs i) k)

-- ---- all lines

-- w has in every lane values that became of those before as R says
pub record Became (R : List ℕ → List ℕ → Type 0) (vs : ℕ → List ℕ) (n : ℕ) (w : List ℕ) : Type 0 where
  pub lane : ℕ → List ℕ
  pub carries : Carries lane n w
  pub each : (i : ℕ) → R (vs i) (lane i)

-- what w has in a lane became what w' has there
abbrev pub EachLane : (List ℕ → List ℕ → Type 0) → ℕ → List ℕ → List ℕ → Type 0
EachLane R n w w' = (vs : ℕ → List ℕ) → Carries vs n w → Became R vs n w'

-- in each lane the simulation of the lines from start to end
abbrev pub SimulateWordsDone : List ℕ → ℕ → List ℕ → ℕ → ℕ → List ℕ → Type 0
SimulateWordsDone c n w start end w' = EachLane (λ vs vs'. SimulateDone Any c vs start end vs') n w w'

-- from the fault's line on
abbrev pub FaultLinesDone : Fault → List ℕ → ℕ → List ℕ → ℕ → List ℕ → Type 0
FaultLinesDone fault c n w end w' = EachLane (λ vs vs'. SimulateFaultDone Any fault c vs end vs') n w w'

-- from good values to those that the forcing f makes
abbrev pub ForcedLinesDone : Forcing → List ℕ → ℕ → List ℕ → List ℕ → Type 0
ForcedLinesDone f c n w w' = EachLane (λ vs vs'. ForcedDone Any f c vs vs') n w w'

-- each input's line has its values of the patterns, every other line X
abbrev pub InputWordsDone : List ℕ → ℕ → ℕ → List ℕ → List ℕ → Type 0
InputWordsDone c m n ps w = (k : ℕ) → k < n → lanes_at w k ≡ laid (λ i. input_or c (lane_pattern m ps i) k (inputs_before c k))

-- ---- the work memory

pub record GoodWordsReady (c : List ℕ) (m n : ℕ) (ps : List ℕ) (room : ℕ) : Type 0 where
  pub well : WellFormed c m n
  pub group : GroupReady m ps
  pub four : room ≡ 4 * n

-- and a fault on a line of the first step, which is stuck at 0 or 1
pub record FaultyWordsReady (c : List ℕ) (fault : Fault) (step n room : ℕ) : Type 0 where
  pub lines : LinesReady c n (2 * n)
  pub steps : StepsReady fault step n
  pub value : fault.value ≤ 1
  pub four : room ≡ 4 * n

-- where the first half of w has the good lines of a group, w' has these and then those that the forcing f makes
abbrev pub ForcedWordsDone : Forcing → List ℕ → ℕ → List ℕ → List ℕ → Type 0
ForcedWordsDone f c n w w' = (m : ℕ) (ps : List ℕ) → take (2 * n) w ≡ good_words c m ps n → w' ≡ both_words_under f c m ps n
