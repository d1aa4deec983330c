-- The inputs of the unfolded circuit in line order: the inputs of the first step, then the free inputs of each later step.
-- Assumes nothing.
use Rattle.std.specs.Prelude.{List, ℕ, zero, suc, ◌+◌, ◌*◌}
use Rattle.circuit.specs.Record.{inputs_before, inputs_of}
use Rattle.states.specs.States.{free_before, free_of}

-- how many of them stand below line m of step i: the number of the input there, if it is one
unfoldable pub input_number : List ℕ → List ℕ → ℕ → ℕ → ℕ
input_number c st zero m = inputs_before c m
input_number c st (suc i) m = inputs_of c + i * free_of c st + free_before c st m
