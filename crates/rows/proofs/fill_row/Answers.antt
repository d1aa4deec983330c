-- `rows::fill_row` meets its contract. The invariant: the entries passed are in the row, and the good values stand.
-- Assumes nothing.
use native.Mathlib.Omega.{arith}
use Rattle.simulate.specs.Simulate.{stuck_at}
use Rattle.rows.proofs.Rows.{start, more, finished}
use Rattle.simulate.proofs.Settled.{ordered, shaped}
use Rattle.rows.proofs.fill_row.Goals as goal

pub good_values-requires : goal.good_values-requires
good_values-requires c = record { shaped = shaped c.requires.well; small = c.requires.small; two = c.requires.two }

pub loop-j-init : goal.loop-j-init
loop-j-init c = start stuck_at c.args.circuit.now c.args.n c.args.pattern.now c.args.faults.now _ c.args.work.now c.requires.two
    c.good_values.ensures

pub read_fault-fault-requires : goal.read_fault-fault-requires
read_fault-fault-requires c =
    record { inside = omega (arith, c.requires.faults, c.loop-j.invariant.long) }

pub fault_entry-requires : goal.fault_entry-requires
fault_entry-requires c =
    let so = c.loop-j.invariant in
    record {
      ordered = ordered c.requires.well;
      two = so.room;
      line = rw c.read_fault-fault.ensures (c.requires.lines _ (omega (arith, so.long)));
      value = rw c.read_fault-fault.ensures (c.requires.values _ (omega (arith, so.long)));
    }

pub bounds-row-j : goal.bounds-row-j
bounds-row-j c =
    omega (arith, c.loop-j.invariant.long)

pub loop-j-preserved : goal.loop-j-preserved
loop-j-preserved c =
    more c.loop-j.invariant (omega (arith, c.loop-j.invariant.long)) c.read_fault-fault.ensures c.requires.small c.fault_entry.ensures

pub returns : goal.returns
returns c =
    finished c.loop-j.invariant (omega (arith, c.loop-j.invariant.long)) c.requires.some c.requires.faults
