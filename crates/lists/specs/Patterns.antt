-- Patterns, one byte an input: 0, 1 or 2 for X; and the refusals 8 and 9.
-- Assumes nothing.
use Rattle.std.specs.Prelude.{List, [], ◌∷◌, ℕ, ◌*◌, ◌<◌, ◌/◌, length, take, drop}
use Rattle.answers.specs.Rules.{Rule}
use Rattle.answers.specs.Rules.Rule.{whole, each}
use Rattle.answers.specs.Small.{small_ok, Small}
use Rattle.answers.specs.Records.{records_ok, Records}
use Rattle.answers.specs.declared.Reason.TheVariants.{PatternsSize, PatternByte}

-- of patterns with m inputs: how many there are, and pattern i
abbrev pub pattern_count : ℕ → List ℕ → ℕ
pattern_count m ps = length ps / m

abbrev pub pattern_at : ℕ → List ℕ → ℕ → List ℕ
pattern_at m ps i = take m (drop (i * m) ps)

unfoldable pub pattern_rules : ℕ → List ℕ → List Rule
pattern_rules m ps =
    whole PatternsSize (records_ok m 256 (length ps)) (Records m 256 (length ps)) 0
    ∷ each PatternByte (length ps) (small_ok ps) (Small ps)
    ∷ []

-- what a list is that is not refused
pub record GoodPatterns (m : ℕ) (ps : List ℕ) : Type 0 where
  pub records : Records m 256 (length ps)
  pub bytes : (i : ℕ) → i < length ps → Small ps i
