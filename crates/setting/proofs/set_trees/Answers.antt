-- `setting::set_trees` meets its contract: the head lines, then all lines, then the inputs.
-- Assumes nothing.
use mathlib.Core.Path.{◌∙◌}
use lib.ListN.{length}
use Rattle.setting.proofs.Inputs.{trees_made}
use Rattle.setting.proofs.set_trees.Goals as goal

pub set_below-requires : goal.set_below-requires
set_below-requires c = rw c.put_heads.auto.want (c.requires.sourced, c.requires.marked)

-- no call changes the length of the work memory
pub take_inputs-requires : goal.take_inputs-requires
take_inputs-requires c =
    rw (c.set_below.auto.want ∙ c.put_heads.auto.want) (record { size = c.requires.sourced.size; inputs_are = c.requires.inputs_are })

pub returns : goal.returns
returns c =
    trees_made c.args.circuit.now c.args.node.now (length c.args.want.now) c.put_heads.new.want c.set_below.new.want
    c.put_heads.auto.want
    (c.set_below.auto.want ∙ c.put_heads.auto.want)
    c.put_heads.ensures
    c.set_below.ensures
    c.take_inputs.ensures
