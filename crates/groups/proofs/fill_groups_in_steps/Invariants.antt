-- `groups::fill_groups_in_steps` meets its contract. The invariant: the rows of the groups passed are in the table.
-- Assumes nothing.
use mathlib.Core.Path.{◌≡◌}
use Rattle.lists.specs.Patterns.{pattern_count}
use Rattle.simulate.specs.Simulate.{stuck_in_steps}
use Rattle.groups.specs.Owed.{GroupCount}
use Rattle.groups.proofs.Groups.{SoFar}
use Rattle.groups.proofs.fill_groups_in_steps.Given as goal

abbrev pub invariant-loop-g : goal.invariant-loop-g
invariant-loop-g l =
    (l.count ≡ pattern_count l.inputs l.patterns) × GroupCount (pattern_count l.inputs l.patterns) l.g-end × SoFar (stuck_in_steps l.step) l.circuit l.n l.inputs l.faults l.patterns l.table l.work l.g-end l.g
