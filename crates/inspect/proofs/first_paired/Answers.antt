-- `inspect::first_paired` meets its contract. The invariant: no fault passed is the lower one of a lost pair.
-- Assumes nothing.
use Rattle.std.proofs.Common.{◌≡◌, add-one, arith}
use Rattle.findings.proofs.Lowest.{place-nowhere}
use Rattle.inspect.specs.Owed.{pair_in}
use Rattle.inspect.proofs.Pairs.{pair-here, no-pair}
use Rattle.inspect.proofs.first_paired.Goals as goal

pub returns-in-Some : goal.returns-in-Some
returns-in-Some c = pair-here _ (pair_in _ _ _) c.loop-lower-test.true c.loop-lower.invariant c.in-Some.ensures

pub loop-lower-preserved : goal.loop-lower-preserved
loop-lower-preserved c = rw (add-one, c.loop-lower.invariant) (place-nowhere _ (pair_in _ _ _ _) c.in_default.ensures)

pub returns : goal.returns
returns c =
    let all : c.loop-lower.lower ≡ c.args.faults = omega (arith, c.loop-lower-test.false, c.loop-lower.auto.lower-end) in
    no-pair _ (pair_in _ _ _) (rw all at c.loop-lower.invariant)
