-- What a net's equations say, over any values; and what is asked of a net so that its records are a circuit.
-- Assumes nothing.
use Rattle.std.specs.Prelude.{◌≡◌, ℕ, ◌+◌, ◌≤◌, ◌<◌, length, get_or, Ok}
use Rattle.gates.specs.Gate.{selector}
use Rattle.answers.specs.Rules.{refusal}
use Rattle.order.specs.Order.{cycle_rules}
use Rattle.records.specs.Net.{Net, gates_of, net_size, pin_of}

-- each input has the value given to it, each gate that of its kind on its sources
pub record Solved {A : Type 0} (gate : ℕ → (ℕ → A) → A) (net : Net) (inputs : ℕ → A) (value : ℕ → A) : Type 0 where
  pub given : (j : ℕ) → j < net.inputs → value (gates_of net + j) ≡ inputs j
  pub equation : (g : ℕ) → g < gates_of net → value g ≡ gate (get_or net.kinds g 0) (λ s. value (pin_of net g s))

-- tables of one length, kinds that are gates and no selectors, numbers of gates and inputs alone, and no gate left over
pub record Right (net : Net) : Type 0 where
  pub kinds_long : length net.kinds ≡ gates_of net
  pub seconds_long : length net.seconds ≡ gates_of net
  pub some_kind : (g : ℕ) → g < gates_of net → 1 ≤ get_or net.kinds g 0
  pub no_selector : (g : ℕ) → g < gates_of net → get_or net.kinds g 0 < selector
  pub firsts_inside : (g : ℕ) → g < gates_of net → get_or net.firsts g 0 < net_size net
  pub seconds_inside : (g : ℕ) → g < gates_of net → get_or net.seconds g 0 < net_size net
  pub outputs_inside : (i : ℕ) → i < length net.outputs → get_or net.outputs i 0 < net_size net
  pub placed : refusal (cycle_rules net.firsts net.seconds) ≡ Ok tt
