-- A group of up to 64 patterns, a lane each, and the words of all lines: of a circuit c with n lines and m inputs, patterns ps.
-- Assumes nothing.
use Rattle.std.specs.Prelude.{List, [], ◌∷◌, ◌++◌, ℕ, ltb, get_or, replicate}
use Rattle.ground.specs.Choose.{choose}
use Rattle.ground.specs.Lists.{gather}
use Rattle.gates.specs.Gate.{X}
use Rattle.lanes.specs.Lanes.{ones_of, zeros_of}
use Rattle.lists.specs.Patterns.{pattern_count, pattern_at}
use Rattle.simulate.specs.Simulate.{Forcing, unforced, values_to}

-- lane i has pattern i of the group; a lane to spare carries a pattern of all X
unfoldable pub lane_pattern : ℕ → List ℕ → ℕ → List ℕ
lane_pattern m ps i = choose (ltb i (pattern_count m ps)) (pattern_at m ps i) (replicate m X)

-- where lane i has the values vs i of n lines: line k's 1-lanes at 2k, its 0-lanes at 2k + 1
abbrev pub line_words : (ℕ → List ℕ) → ℕ → List ℕ
line_words vs n = gather (λ k. ones_of (λ i. get_or (vs i) k 0) ∷ zeros_of (λ i. get_or (vs i) k 0) ∷ []) n

-- where something is forced in the circuit, in every lane
abbrev pub forced_words : Forcing → List ℕ → ℕ → List ℕ → ℕ → List ℕ
forced_words f c m ps n = line_words (λ i. values_to f c (lane_pattern m ps i) n) n

abbrev pub good_words : List ℕ → ℕ → List ℕ → ℕ → List ℕ
good_words = forced_words unforced

-- good lines, then those of the circuit in which something is forced
abbrev pub both_words_under : Forcing → List ℕ → ℕ → List ℕ → ℕ → List ℕ
both_words_under f c m ps n = good_words c m ps n ++ forced_words f c m ps n
