-- `groups::fill_groups` meets its contract: one step of all lines.
-- Assumes nothing.
use Rattle.groups.proofs.OneStep.{one_step_done}
use Rattle.groups.proofs.fill_groups.Goals as goal

pub returns : goal.returns
returns c =
    one_step_done c.args.circuit.now c.args.n c.args.inputs c.args.faults.now c.args.patterns.now c.fill_groups_in_steps.ensures
