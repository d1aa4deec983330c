-- The fields of a net's records: kind, output byte and sources of each line are those of the number that stands there.
-- Assumes nothing.
use mathlib.Core.Path.{◌≡◌, sym}
use Prim.Native.Nat.{ℕ, ◌+◌, ◌*◌, ◌≤◌, ◌<◌}
use native.Mathlib.Nat.{add-zero, mul_comm, mul-div_right}
use native.Mathlib.Omega.{arith}
use lib.ListN.{length, get_or}
use Rattle.ground.specs.Choose.{one}
use Rattle.ground.specs.Lists.{elem}
use Rattle.ground.proofs.Gather.{gather_at}
use Rattle.little.specs.Little.{le, pair_at}
use Rattle.little.proofs.Little.{read_back}
use Rattle.gates.specs.Gate.{pins_of}
use Rattle.gates.proofs.Laws.{two_pins}
use Rattle.circuit.specs.Record.{lines_of, kind_at, out_at, pin_at}
use Rattle.circuit.proofs.Lines.{three}
use Rattle.records.specs.Net.{Net, net_size, number_on, net_kind, net_source, record_on, records_to, records_of}
use Rattle.records.proofs.Size.{record_length, records_length}
use Rattle.records.proofs.Stands.{source_lacks}
use Rattle.netlist.specs.Solved.{Right}
use Rattle.netlist.proofs.Sources.{kind_below, source_inside}

module _ (net : Net) where
  -- byte i of the record on line k
  byte : (k i : ℕ) → k < net_size net → i < 8 → get_or (records_of net) (8 * k + i) 0 ≡ get_or (record_on net k) i 0
  unfolding records_to
  byte k i l h = rw (mul_comm 8 k) (gather_at (record_on net) 8 (record_length net) 0 (net_size net) k i l h)

  pub net_long : length (records_of net) ≡ 8 * net_size net
  net_long = records_length net (net_size net)

  pub net_lines : lines_of (records_of net) ≡ net_size net
  net_lines = rw net_long (mul-div_right (net_size net) (omega arith))

  module _ (k : ℕ) (l : k < net_size net) where
    pub net_kind_lem : kind_at (records_of net) k ≡ net_kind net k
    unfolding record_on
    net_kind_lem = rw add-zero at (byte k 0 l (omega arith))

    pub net_out : out_at (records_of net) k ≡ one (elem net.outputs (number_on net k))
    unfolding record_on
    net_out = byte k 1 l (omega arith)

    module _ (r : Right net) (few : net_size net ≤ 65536) where
      -- bytes 2 and 3 have the source at pin 1, the next two that at pin 2, and the last nothing, as no gate of the net has a pin 3
      words : (s : ℕ) → 1 ≤ s → s ≤ 3 → pair_at (record_on net k) (2 * s) ≡ net_source net k s
      unfolding record_on le pair_at
      words =
          three (λ s. pair_at (record_on net k) (2 * s) ≡ net_source net k s)
          (source 1 (omega arith)) (source 2 (omega arith)) (sym (source_lacks net k 3 (omega (arith, pins))))
        where
          pins : pins_of (net_kind net k) ≤ 2
          pins = two_pins (net_kind net k) (λ e. omega (arith, kind_below net r k l))

          source : (s : ℕ) → 1 ≤ s → pair_at (le 2 (net_source net k s)) 0 ≡ net_source net k s
          source s h = read_back (net_source net k s) (omega (arith, source_inside net r k s l h))

      pub net_pin : (s : ℕ) → 1 ≤ s → s ≤ 3 → pin_at (records_of net) k s ≡ net_source net k s
      unfolding pair_at
      net_pin s a b =
          let next : (8 * k + 2 * s) + 1 ≡ 8 * k + (2 * s + 1) = omega arith in
          rw (next, byte k (2 * s) l (omega arith), byte k (2 * s + 1) l (omega arith)) (words s a b)
