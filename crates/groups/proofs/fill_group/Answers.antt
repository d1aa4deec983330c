-- `groups::fill_group` meets its contract. The invariant: the columns of the faults passed are in the table, and the good lines stand.
-- Assumes nothing.
use native.Mathlib.Omega.{arith}
use mathlib.Core.Path.{refl}
use Rattle.groups.proofs.Columns.{good-ready, start, fault_ready, column_ready, more, finished}
use Rattle.groups.proofs.fill_group.Goals as goal

pub good_words-requires : goal.good_words-requires
good_words-requires c =
    good-ready c.args.table.now c.args.work.now c.requires.0

pub loop-j-init : goal.loop-j-init
loop-j-init c =
    (refl, refl, start c.args.table.now c.args.work.now c.requires.0 c.good_words.ensures)

pub read_fault-fault-requires : goal.read_fault-fault-requires
read_fault-fault-requires c = record { inside = omega (arith, c.requires.0.faults.multiple) }

pub fault_entries-entries-requires : goal.fault_entries-entries-requires
fault_entries-entries-requires c =
    fault_ready c.loop-j.invariant.2 c.requires.0 (omega arith) c.requires.1 c.read_fault-fault.ensures

pub put_column-requires : goal.put_column-requires
put_column-requires c =
    let inv = c.loop-j.invariant in
    rw (inv.0, inv.1) (column_ready inv.2 c.requires.0 (omega arith))

pub loop-j-preserved : goal.loop-j-preserved
loop-j-preserved c =
    let inv = c.loop-j.invariant in
    (inv.0, inv.1, more inv.2 (omega arith) c.read_fault-fault.ensures c.fault_entries-entries.ensures (rw (inv.0, inv.1) at c.put_column.ensures))

pub returns : goal.returns
returns c = finished c.loop-j.invariant.2 c.requires.0 (omega arith)
