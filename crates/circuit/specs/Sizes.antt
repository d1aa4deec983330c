-- Which refusals are left where every record keeps its layout: the number of lines, too many inputs, no output.
-- Assumes nothing.
use Rattle.std.specs.Prelude.{◌&&◌, List, ◌∷◌, ℕ, ◌≤◌, leb}
use Rattle.answers.specs.Rules.{Rule}
use Rattle.answers.specs.Rules.Rule.{whole}
use Rattle.circuit.specs.Promise.{count_rules}
use Rattle.answers.specs.declared.Reason.TheVariants.{CircuitSize}

-- 1 to 2,048 lines, not more than 64 inputs, some output
unfoldable pub size_rules : ℕ → ℕ → ℕ → List Rule
size_rules lines inputs outputs = whole CircuitSize (leb 1 lines && leb lines 2048) ((1 ≤ lines) × (lines ≤ 2048)) 0 ∷ count_rules inputs outputs

-- all of them hold
pub record SizesHold (lines inputs outputs : ℕ) : Type 0 where
  pub some_lines : 1 ≤ lines
  pub most_lines : lines ≤ 2048
  pub most_inputs : inputs ≤ 64
  pub some_outputs : 1 ≤ outputs
