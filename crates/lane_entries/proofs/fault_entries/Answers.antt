-- `lane_entries::fault_entries` meets its contract: the faulty lines, then the entries.
-- Assumes nothing.
use Rattle.lane_entries.proofs.Fault.{entries_made}
use Rattle.lane_entries.proofs.fault_entries.Goals as goal

pub returns : goal.returns
returns c =
    entries_made c.args.fault c.args.step c.args.circuit.now c.args.n c.requires.steps c.args.work.now c.faulty_words.new.work
    c.faulty_words.ensures c.entries_from.ensures
