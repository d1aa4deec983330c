-- `unfold_dictionary::leave_last` meets its contract: the good values of the last pattern, then the faulty ones of the last fault.
-- Assumes nothing.
use Rattle.unfold_dictionary.proofs.Last.{pattern_room, last_inside, good-ready, faulty-ready, left_last}
use Rattle.unfold_dictionary.proofs.leave_last.Goals as goal

pub overflow_sub-from : goal.overflow_sub-from
overflow_sub-from c = pattern_room c.requires

pub overflow_sub-last : goal.overflow_sub-last
overflow_sub-last c = c.requires.ready.faults.some

pub good_values-requires : goal.good_values-requires
good_values-requires c = good-ready c.requires

pub read_fault-fault-requires : goal.read_fault-fault-requires
read_fault-fault-requires c = last_inside c.requires

pub faulty_in_steps-requires : goal.faulty_in_steps-requires
faulty_in_steps-requires c =
    rw c.good_values.auto.work (faulty-ready c.requires c.read_fault-fault.ensures)

pub returns : goal.returns
returns c =
    left_last c.requires c.args.work.now c.read_fault-fault.ensures c.good_values.ensures c.faulty_in_steps.ensures
