-- A net, which is what a text says once its names are numbers, and the circuit records of it.
-- Gates are numbered in the text's order from 0, then come the inputs.
-- Assumes nothing.
use Rattle.std.specs.Prelude.{List, ◌∷◌, ◌++◌, ℕ, ◌+◌, ◌-◌, eqb, ltb, leb, length, get_or}
use Rattle.ground.specs.Choose.{choose, one}
use Rattle.ground.specs.Lists.{elem, index_in, gather}
use Rattle.little.specs.Little.{le}
use Rattle.gates.specs.Gate.{pins_of}
use Rattle.order.specs.Order.{order_of}

pub record Net : Type 0 where
  -- how many
  pub inputs : ℕ
  -- of each gate: its kind, its first and its second source
  pub kinds : List ℕ
  pub firsts : List ℕ
  pub seconds : List ℕ
  -- as often as they are written
  pub outputs : List ℕ

abbrev pub gates_of : Net → ℕ
gates_of net = length net.firsts

abbrev pub net_size : Net → ℕ
net_size net = net.inputs + gates_of net

-- the source at pin s of gate g
unfoldable pub pin_of : Net → ℕ → ℕ → ℕ
pin_of net g s = choose (eqb s 1) (get_or net.firsts g 0) (get_or net.seconds g 0)

-- ---- lines: the inputs, then the gates in their order

abbrev pub placed_of : Net → List ℕ
placed_of net = order_of net.firsts net.seconds

-- the line of a number
unfoldable pub net_line : Net → ℕ → ℕ
net_line net x = choose (ltb x (gates_of net)) (net.inputs + index_in (placed_of net) x) (x - gates_of net)

-- the number that stands on line k
unfoldable pub number_on : Net → ℕ → ℕ
number_on net k = choose (ltb k net.inputs) (gates_of net + k) (get_or (placed_of net) (k - net.inputs) 0)

-- ---- the record of line k: kind, whether it is an output, and the lines of the sources that the kind has. A net has two sources a gate: bytes 6 and 7 are 0

unfoldable pub net_kind : Net → ℕ → ℕ
net_kind net k = choose (ltb k net.inputs) 0 (get_or net.kinds (number_on net k) 0)

unfoldable pub net_source : Net → ℕ → ℕ → ℕ
net_source net k s = choose (leb s (pins_of (net_kind net k))) (net_line net (pin_of net (number_on net k) s)) 0

unfoldable pub record_on : Net → ℕ → List ℕ
record_on net k =
    net_kind net k ∷ one (elem net.outputs (number_on net k)) ∷ (le 2 (net_source net k 1) ++ (le 2 (net_source net k 2) ++ le 2 0))

-- of the first n lines
unfoldable pub records_to : Net → ℕ → List ℕ
records_to net n = gather (record_on net) n

abbrev pub records_of : Net → List ℕ
records_of net = records_to net (net_size net)
