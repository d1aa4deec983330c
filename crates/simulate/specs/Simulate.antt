-- Simulation with three values of a circuit in which something may force values: nothing, or a fault.
-- Assumes nothing.
use Rattle.std.specs.Prelude.{List, ℕ, ◌%◌, get_or}
use Rattle.ground.specs.Choose.{choose}
use Rattle.ground.specs.Lists.{grow}
use Rattle.gates.specs.Gate.{gate_of}
use Rattle.circuit.specs.Record.{kind_at, pin_at, is_input, inputs_before}
use Rattle.lists.specs.declared.Fault.{Fault}
use Rattle.lists.specs.Faults.{is_at}

-- line, site (0 the line itself, s its pin s) and the value there, to the value that is seen there
abbrev pub Forcing : Type 0
Forcing = ℕ → ℕ → ℕ → ℕ

-- the good circuit
abbrev pub unforced : Forcing
unforced line site v = v

-- a fault: one site of one line shows the stuck value
unfoldable pub stuck_at : Fault → Forcing
stuck_at fault line site v = choose (is_at fault line site) fault.value v

-- what is forced in every step of a circuit that has so many lines a step; where it has no more lines than that, there is one step
unfoldable pub in_steps : ℕ → Forcing → Forcing
in_steps step f line site v = f (line % step) site v

-- a fault in every step
abbrev pub stuck_in_steps : ℕ → Fault → Forcing
stuck_in_steps step fault = in_steps step (stuck_at fault)

-- the value of the gate at line k, where vs has the values of the lines below it
unfoldable pub gate_value : Forcing → List ℕ → List ℕ → ℕ → ℕ
gate_value f c vs k = gate_of (kind_at c k) (λ s. f k s (get_or vs (pin_at c k s) 0))

-- the value of line k: an input's from the pattern p, in line order
unfoldable pub line_value : Forcing → List ℕ → List ℕ → List ℕ → ℕ → ℕ
line_value f c p vs k = f k 0 (choose (is_input c k) (get_or p (inputs_before c k) 0) (gate_value f c vs k))

-- the values of the first n lines, each after those below it
abbrev pub values_to : Forcing → List ℕ → List ℕ → ℕ → List ℕ
values_to f c p n = grow (line_value f c p) n
