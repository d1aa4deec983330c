-- The work memory: the good values of all lines, then those of a circuit in which something is forced, as a fault does.
-- Assumes nothing.
use Rattle.std.specs.Prelude.{List, ◌++◌, ℕ}
use Rattle.lists.specs.declared.Fault.{Fault}
use Rattle.simulate.specs.Simulate.{Forcing, unforced, stuck_at, values_to}

-- of the pattern p in a circuit of n lines
abbrev pub good_of : List ℕ → List ℕ → ℕ → List ℕ
good_of c p n = values_to unforced c p n

abbrev pub faulty_of : Fault → List ℕ → List ℕ → ℕ → List ℕ
faulty_of fault c p n = values_to (stuck_at fault) c p n

-- whatever forces values, and a fault
abbrev pub both_under : Forcing → List ℕ → List ℕ → ℕ → List ℕ
both_under f c p n = good_of c p n ++ values_to f c p n

abbrev pub both_of : Fault → List ℕ → List ℕ → ℕ → List ℕ
both_of fault c p n = good_of c p n ++ faulty_of fault c p n
