-- `groups::put_group` meets its contract: the patterns and their rows are parts of their lists.
-- Assumes nothing.
use Rattle.simulate.specs.Simulate.{stuck_in_steps}
use Rattle.groups.proofs.Parts.{patterns_fit, entries_fit, group_ready, put}
use Rattle.groups.proofs.put_group.Goals as goal

-- the patterns, and their entries, lie in their memory
pub slice_bounds-group-end : goal.slice_bounds-group-end
slice_bounds-group-end c = patterns_fit c.args.patterns.now c.requires.0.patterns c.requires.2

pub slice_bounds-fill_group-end : goal.slice_bounds-fill_group-end
slice_bounds-fill_group-end c = entries_fit c.requires.0 c.requires.2

pub fill_group-requires : goal.fill_group-requires
fill_group-requires c = (
  group_ready c.args.circuit.now c.args.n c.args.inputs c.args.faults.now c.args.patterns.now c.args.table.now
      c.args.from c.args.rows c.requires.0 c.requires.2,
  c.requires.1,
)

pub returns : goal.returns
returns c =
    put c.args.circuit.now c.args.n c.args.inputs c.args.faults.now c.args.patterns.now c.args.table.now c.args.from
    c.args.rows (stuck_in_steps c.args.step) _ _ c.fill_group.ensures
