-- What the functions of the check owe each other; no reader of the promises needs it.
-- Assumes nothing.
use Rattle.std.specs.Prelude.{◌≡◌, List, ℕ, ◌≤◌, ◌<◌, leb}
use Rattle.ground.specs.Choose.{choose}
use Rattle.ground.specs.Below.{first_not}
use Rattle.gates.specs.Gate.{pins_of}
use Rattle.circuit.specs.declared.LineCounts.{LineCounts}
use Rattle.circuit.specs.Record.{kind_at, inputs_before, outputs_before}
use Rattle.circuit.specs.Layout.{line_ok}
use Rattle.circuit.specs.BadByte.{first_byte, bad_field}

-- what the source of pin s of line k must be below: the line where the kind has the pin, else 1
unfoldable pub limit_of : List ℕ → ℕ → ℕ → ℕ
limit_of c k s = choose (leb s (pins_of (kind_at c k))) k 1

-- the lines before the first of n that breaks its layout, the inputs and outputs among them, and where in that one the first bad field begins
pub record CountLinesDone (c : List ℕ) (n : ℕ) (r : LineCounts) : Type 0 where
  pub lines : r.lines ≡ first_not n (line_ok c)
  pub at_most : r.lines ≤ n
  pub inputs : r.inputs ≡ inputs_before c r.lines
  pub outputs : r.outputs ≡ outputs_before c r.lines
  pub byte : r.lines < n → r.byte ≡ first_byte (bad_field c r.lines)
  pub inside : r.byte ≤ 8
