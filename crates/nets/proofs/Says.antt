-- The refusals of a net in the paper's words.
-- Assumes nothing.
use Prim.Native.Nat.{ℕ}
use Rattle.answers.specs.Rules.{AllSay}
use Rattle.answers.proofs.Rules.{both_say}
use Rattle.answers.proofs.Same.{eq_same}
use Rattle.circuit.specs.Promise.{circuit_rules}
use Rattle.circuit.proofs.Says.{circuit_says}
use Rattle.order.specs.Order.{cycle_rules}
use Rattle.order.proofs.Says.{cycle_says}
use Rattle.records.specs.Net.{Net, records_of}
use Rattle.nets.specs.Rules.{buffer_rules, net_rules}

buffer_says : (room : ℕ) → AllSay (buffer_rules room)
unfolding buffer_rules AllSay
buffer_says room = (eq_same room 16384, tt)

pub net_says : (net : Net) (room : ℕ) → AllSay (net_rules net room)
net_says net room =
    both_say (cycle_rules net.firsts net.seconds) _ (cycle_says net.firsts net.seconds)
    (both_say (circuit_rules (records_of net)) _ (circuit_says (records_of net)) (buffer_says room))
