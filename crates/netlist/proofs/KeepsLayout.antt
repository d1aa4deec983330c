-- The records of a net keep the layout of circuit records, and each gate's sources are lower than the gate.
-- Assumes nothing.
use Prim.Native.Nat.{ℕ, ◌≤◌, ◌<◌}
use native.Mathlib.Omega.{arith}
use Rattle.ground.specs.Lists.{elem}
use Rattle.ground.proofs.Tests.{one_most}
use Rattle.circuit.specs.Layout.{Pin, Layout}
use Rattle.records.specs.Net.{Net, net_size, number_on, records_of}
use Rattle.records.proofs.Stands.{source_lacks}
use Rattle.netlist.specs.Solved.{Right}
use Rattle.netlist.proofs.Sources.{kind_below, source_lower}
use Rattle.netlist.proofs.Fields.{net_kind_lem, net_out, net_pin}

module _ (net : Net) (r : Right net) (few : net_size net ≤ 65536) (k : ℕ) (l : k < net_size net) where
  net_pins : (s : ℕ) → 1 ≤ s → s ≤ 3 → Pin (records_of net) k s
  net_pins s a b = record {
    has = λ h. rw (net_pin net k l r few s a b) (source_lower net r k s l a (rw (net_kind_lem net k l) at h));
    lacks = λ h. rw (net_pin net k l r few s a b) (source_lacks net k s (rw (net_kind_lem net k l) at h));
  }

  pub net_layout : Layout (records_of net) k
  net_layout = record {
    kind = rw (net_kind_lem net k l) (omega (arith, kind_below net r k l));
    output = rw (net_out net k l) (one_most (elem net.outputs (number_on net k)));
    pin = net_pins;
  }
