-- What is asked of a group, and the lanes of one of its inputs; no reader of the promises needs it.
-- Assumes nothing.
use Rattle.std.specs.Prelude.{List, ℕ, ◌+◌, ◌*◌, ◌≤◌, ltb, length, get_or}
use Rattle.ground.specs.Choose.{choose}
use Rattle.answers.specs.Records.{Records}
use Rattle.gates.specs.Gate.{X}
use Rattle.lists.specs.Patterns.{pattern_count}

-- up to 64 patterns of m inputs
pub record GroupReady (m : ℕ) (ps : List ℕ) : Type 0 where
  pub records : Records m 64 (length ps)
  pub few_inputs : m ≤ 64

-- of patterns ps with m inputs: lane i has the value of pattern i, a lane to spare X
unfoldable pub input_lane : ℕ → List ℕ → ℕ → ℕ → ℕ
input_lane m ps input i = choose (ltb i (pattern_count m ps)) (get_or ps (i * m + input) 0) X
