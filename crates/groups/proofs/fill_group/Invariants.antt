-- `groups::fill_group` meets its contract. The invariant: the columns of the faults passed are in the table, and the good lines stand.
-- Assumes nothing.
use mathlib.Core.Path.{◌≡◌}
use Rattle.lists.specs.Faults.{fault_count}
use Rattle.lists.specs.Patterns.{pattern_count}
use Rattle.simulate.specs.Simulate.{stuck_in_steps}
use Rattle.groups.proofs.Columns.{SoFar}
use Rattle.groups.proofs.fill_group.Given as goal

abbrev pub invariant-loop-j : goal.invariant-loop-j
invariant-loop-j l =
    (l.width ≡ fault_count l.faults) × (l.count ≡ pattern_count l.inputs l.patterns) × SoFar (stuck_in_steps l.step) l.circuit l.n l.inputs l.faults l.patterns l.table l.work l.j
