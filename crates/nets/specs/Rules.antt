-- The refusals of a net and of its records.
-- Assumes nothing.
use Rattle.std.specs.Prelude.{List, [], ◌∷◌, ◌++◌, ℕ}
use Rattle.answers.specs.Rules.{Rule}
use Rattle.answers.specs.Lent.{exact}
use Rattle.circuit.specs.Promise.{circuit_rules}
use Rattle.order.specs.Order.{cycle_rules}
use Rattle.records.specs.Net.{Net, records_of}

-- the buffer has the size of the largest circuit
abbrev pub buffer_bytes : ℕ
buffer_bytes = 16384

unfoldable pub buffer_rules : ℕ → List Rule
buffer_rules room = exact buffer_bytes room ∷ []

-- the circuit check's refusals on the records, then 10
abbrev pub record_rules : List ℕ → ℕ → List Rule
record_rules records room = circuit_rules records ++ buffer_rules room

-- 16 on a net, then those on its records
abbrev pub net_rules : Net → ℕ → List Rule
net_rules net room = cycle_rules net.firsts net.seconds ++ record_rules (records_of net) room
