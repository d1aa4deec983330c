-- `counts::count_row` meets its contract. The invariant: the first f cells of the row are counted.
-- Assumes nothing.
use mathlib.Core.Path.{◌≡◌}
use lib.ListN.{length}
use Rattle.counts.specs.Counted.{hit_row}
use Rattle.counts.specs.Owed.{CellsDone}
use Rattle.counts.proofs.count_row.Given as goal

abbrev pub invariant-loop-f : goal.invariant-loop-f
invariant-loop-f l =
    (length l.counts ≡ length l.initial.counts) × CellsDone l.into (hit_row l.table l.from l.want l.at l.f) l.initial.counts l.counts
