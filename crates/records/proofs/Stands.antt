-- What stands on a line: an input, or a gate in its place of the order; and the line's record in its numbers.
-- Assumes nothing.
use mathlib.Core.Path.{◌≡◌, refl}
use Prim.Native.Nat.{ℕ, suc, ◌+◌, ◌-◌, ◌≤◌, ◌<◌}
use native.Mathlib.Omega.{arith}
use lib.ListN.{get_or}
use borrow.Author.Tests.{lt-ltb, le-ltb, lt-leb}
use Rattle.ground.specs.Choose.{one}
use Rattle.ground.specs.Lists.{elem}
use Rattle.gates.specs.Gate.{pins_of}
use Rattle.records.specs.Net.{Net, gates_of, placed_of, number_on, net_kind, net_source, record_on}
use Rattle.records.specs.Owed.{record_of}

module _ (net : Net) (k : ℕ) where
  -- a pin that the kind lacks has no source
  pub source_lacks : (s : ℕ) → pins_of (net_kind net k) < s → net_source net k s ≡ 0
  unfolding net_source
  source_lacks s l = rw (lt-leb s (pins_of (net_kind net k)) l)

  pub record_is : record_on net k ≡ record_of (net_kind net k) (one (elem net.outputs (number_on net k))) (net_source net k 1) (net_source net k 2) 0
  unfolding record_on record_of
  record_is = refl

  -- an input

  module _ (l : k < net.inputs) where
    pub input-number : number_on net k ≡ gates_of net + k
    unfolding number_on
    input-number = rw (lt-ltb k net.inputs l)

    pub input_kind : net_kind net k ≡ 0
    unfolding net_kind
    input_kind = rw (lt-ltb k net.inputs l)

    pub input_source : (s : ℕ) → net_source net k (suc s) ≡ 0
    unfolding pins_of
    input_source s = source_lacks (suc s) (rw input_kind (omega arith))

  -- a gate

  module _ (l : net.inputs ≤ k) where
    pub gate-number : number_on net k ≡ get_or (placed_of net) (k - net.inputs) 0
    unfolding number_on
    gate-number = rw (le-ltb k net.inputs l)

    pub gate_kind : net_kind net k ≡ get_or net.kinds (number_on net k) 0
    unfolding net_kind
    gate_kind = rw (le-ltb k net.inputs l)
