-- `counts::count_pattern` meets its contract. The invariant: the first g rows of pairs are counted.
-- Assumes nothing.
use mathlib.Core.Path.{◌≡◌}
use lib.ListN.{length}
use Rattle.ground.specs.Below.{any_below}
use Rattle.counts.specs.Counted.{hit_pair}
use Rattle.counts.specs.Owed.{CellsDone}
use Rattle.counts.proofs.count_pattern.Given as goal

abbrev pub invariant-loop-g : goal.invariant-loop-g
invariant-loop-g l =
    (length l.counts ≡ length l.initial.counts) × CellsDone l.into (λ k. any_below l.g (hit_pair l.table l.from k)) l.initial.counts l.counts
