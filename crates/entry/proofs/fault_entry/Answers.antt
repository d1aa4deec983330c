-- `entry::fault_entry` meets its contract: the faulty values, then the entry.
-- Assumes nothing.
use Rattle.simulate.specs.Simulate.{stuck_at}
use Rattle.entry.proofs.Halves.{entry_made}
use Rattle.entry.proofs.fault_entry.Goals as goal

pub returns : goal.returns
returns c = entry_made (stuck_at c.args.fault) c.args.circuit.now c.args.n c.args.work.now c.faulty_values.new.work
    c.faulty_values.ensures c.entry_by.ensures
