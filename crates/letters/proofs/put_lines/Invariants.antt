-- `letters::put_lines` meets its contract. The invariant: the lines of the first p patterns stand.
-- Assumes nothing.
use Rattle.ground.specs.Put.{Put}
use Rattle.letters.specs.Text.{lines_to}
use Rattle.letters.proofs.put_lines.Given as goal

abbrev pub invariant-loop-p : goal.invariant-loop-p
invariant-loop-p l = Put l.initial.out l.out 0 (lines_to l.faults l.table l.marks l.p) l.at
