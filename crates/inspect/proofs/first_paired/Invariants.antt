-- `inspect::first_paired` meets its contract. The invariant: no fault passed is the lower one of a lost pair.
-- Assumes nothing.
use Rattle.std.proofs.Common.{◌≡◌, false}
use Rattle.ground.specs.Below.{any_below}
use Rattle.inspect.specs.Owed.{pair_in}
use Rattle.inspect.proofs.first_paired.Given as goal

abbrev pub invariant-loop-lower : goal.invariant-loop-lower
invariant-loop-lower l = any_below l.lower (λ f. any_below l.faults (pair_in l.kept l.dropped l.seen f)) ≡ false
