-- Which refusals of a circuit can be given of a net: its size, too many inputs, and no output.
-- Assumes nothing.
use Rattle.std.specs.Prelude.{List, length}
use Rattle.answers.specs.Rules.{Rule}
use Rattle.circuit.specs.Sizes.{size_rules}
use Rattle.records.specs.Net.{Net, net_size}

abbrev pub net_sizes : Net → List Rule
net_sizes net = size_rules (net_size net) net.inputs (length net.outputs)
