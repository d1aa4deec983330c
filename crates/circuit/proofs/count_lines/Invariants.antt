-- `circuit::count_lines` meets its contract. The invariant: every line passed keeps its layout, and those that are inputs and outputs are counted.
-- Assumes nothing.
use Rattle.ground.proofs.First.{Every}
use Rattle.ground.proofs.Counting.{Sum}
use Rattle.circuit.specs.Record.{is_input, is_output}
use Rattle.circuit.specs.Layout.{line_ok}
use Rattle.circuit.proofs.count_lines.Given as goal

abbrev pub invariant-loop-k : goal.invariant-loop-k
invariant-loop-k l = Every (line_ok l.circuit) 0 l.k × Sum (is_input l.circuit) l.n l.k l.inputs × Sum (is_output l.circuit) l.n l.k l.outputs
