-- Which value of a pattern, and which of a vector, is put on which input in which step.
-- Assumes nothing.
use Rattle.std.specs.Prelude.{List, ℕ, get_or}
use Rattle.simulate.specs.Boolean.{Vector}
use Rattle.unfolded.specs.Inputs.{input_number}
use Rattle.clocked.specs.Clocked.{Given}
use Rattle.clocked.specs.Boolean.{GivenTruths}

-- what a pattern of the unfolded circuit puts on the inputs
abbrev pub given_by : List ℕ → List ℕ → List ℕ → Given
given_by c st p i m = get_or p (input_number c st i m) 0

-- and what a vector does
abbrev pub truths_by : List ℕ → List ℕ → Vector → GivenTruths
truths_by c st x i m = x (input_number c st i m)
