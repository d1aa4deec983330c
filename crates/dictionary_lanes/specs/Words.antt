-- The promise of the second engine in the paper's words; `DictionaryLanes` is proved to say the same.
-- Assumes nothing.
use Rattle.std.specs.Prelude.{◌≡◌, List, ℕ, ◌+◌, ◌*◌, ◌-◌, ◌/◌, ◌<◌, eqb, ltb, length, get_or, replicate}
use Rattle.ground.specs.Choose.{choose}
use Rattle.answers.specs.Rules.{Ruling}
use Rattle.gates.specs.Gate.{X}
use Rattle.circuit.specs.Record.{lines_of, inputs_of}
use Rattle.lists.specs.Patterns.{pattern_count, pattern_at}
use Rattle.simulate.specs.Work.{good_of, faulty_of}
use Rattle.rows.specs.Table.{last_fault}
use Rattle.lanes.specs.Words.{Bits}
use Rattle.dictionary.specs.Words.{EngineWords}

-- the first pattern of the last group of 64
abbrev pub last_start : ℕ → List ℕ → ℕ
last_start m ps = 64 * ((pattern_count m ps - 1) / 64)

-- lane i of the last group carries the pattern that stands i behind that first one; where the list has none, a pattern of all X
unfoldable pub last_lane : ℕ → List ℕ → ℕ → List ℕ
last_lane m ps i = choose (ltb (last_start m ps + i) (pattern_count m ps)) (pattern_at m ps (last_start m ps + i)) (replicate m X)

-- from place `at` on stand the words of n lines, where lane i has the values vs i: bit i of word 2k is set exactly if line k has a 1 there, and
-- bit i of word 2k + 1 exactly if it has a 0
pub record LineBits (vs : ℕ → List ℕ) (n at : ℕ) (w : List ℕ) : Type 0 where
  pub ones : (k : ℕ) → k < n → Bits (λ i. eqb (get_or (vs i) k 0) 1) (get_or w (at + 2 * k) 0)
  pub zeros : (k : ℕ) → k < n → Bits (λ i. eqb (get_or (vs i) k 0) 0) (get_or w (at + (2 * k + 1)) 0)

-- the work memory: good lines, then faulty, of the last group with the last fault
pub record LeftWords (c : List ℕ) (n m : ℕ) (fs ps w : List ℕ) : Type 0 where
  pub long : length w ≡ 4 * n
  pub good : LineBits (λ i. good_of c (last_lane m ps i) n) n 0 w
  pub faulty : LineBits (λ i. faulty_of (last_fault fs) c (last_lane m ps i) n) n (2 * n) w

abbrev pub LanesInWords : List ℕ → List ℕ → List ℕ → List ℕ → List ℕ → Ruling → List ℕ → List ℕ → Type 0
LanesInWords c fs ps t w r t' w' = EngineWords 4 (LeftWords c (lines_of c) (inputs_of c) fs ps) c fs ps t w r t' w'
