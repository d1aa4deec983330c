-- The whole: in memory of its size, the lines are numbered, the outputs marked, and the records written are the net's.
-- Assumes nothing.
use mathlib.Core.Path.{◌≡◌, ◌∙◌}
use mathlib.Core.List.{List}
use Prim.Native.Nat.{ℕ, ◌+◌, ◌*◌, ◌<◌}
use native.Mathlib.Omega.{arith}
use lib.ListN.{length, get_or}
use Rattle.order.proofs.Says.{order_inside}
use Rattle.records.specs.Net.{Net, gates_of, net_size, records_of}
use Rattle.records.specs.Owed.{PutRecordsInReady, NumberLinesReady, NumberLinesDone, MarkOutputsReady, MarkOutputsDone, lined_of, records_by, PutLinesReady}
use Rattle.records.proofs.Written.{WrittenTold, same_records}

module _ {net : Net} {order line₀ flag₀ records : List ℕ} (m : PutRecordsInReady net order line₀ flag₀ records) where
  gate_inside : (i : ℕ) → i < length order → get_or order i 0 < gates_of net
  gate_inside i l = rw m.fits.order_is (order_inside net.firsts net.seconds i (rw m.fits.order_is at l))

  pub number_room : NumberLinesReady order net.inputs line₀
  number_room = record { few = omega (arith, m.fits.few, m.fits.placed); gates = λ i l. rw m.lines (gate_inside i l) }

  pub not_set : MarkOutputsReady net.outputs flag₀
  not_set = record { unset = m.unset; numbers = λ i l. rw m.flags (m.fits.output_numbers i l) }

  pub room_is : length records ≡ 8 * (net.inputs + length order)
  room_is = rw m.fits.placed m.fits.room

  module _ {line flag : List ℕ} (e : length line ≡ length line₀) (f : length flag ≡ length flag₀) where
    pub has_lines : PutLinesReady (lined_of net order line flag)
    has_lines = record {
      few = omega (arith, m.fits.few, m.fits.placed);
      gates = λ i l.
          let g = gate_inside i l in
          record {
            kind = rw m.fits.kinds g;
            first = g;
            second = rw m.fits.seconds g;
            marked = omega (arith, m.flags);
          };
      flags = omega (arith, m.flags, m.lines);
    }

    pub told : NumberLinesDone order net.inputs line → MarkOutputsDone net.outputs flag → WrittenTold net order line flag
    told n o = record {
      order_is = m.fits.order_is;
      placed = m.fits.placed;
      lines = e ∙ m.lines;
      flags = f ∙ m.flags;
      numbered = n;
      marked = o;
    }

pub all_written : {net : Net} {order line flag : List ℕ} → WrittenTold net order line flag
    → {w : List ℕ} → w ≡ records_by (lined_of net order line flag) (net.inputs + length order) → w ≡ records_of net
all_written {net} t p = p ∙ rw t.placed (same_records t (net_size net) (omega arith))
