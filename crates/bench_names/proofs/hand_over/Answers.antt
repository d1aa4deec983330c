-- `bench_names::hand_over` meets its contract. The invariant: the places of the lines below k are written.
-- Assumes nothing.
use native.Mathlib.Nat.{zero-add}
use native.Mathlib.Omega.{arith}
use Rattle.ground.proofs.Put.{partly_long, partly_more}
use Rattle.answers.proofs.Answer.{refused_done}
use Rattle.bench_names.proofs.Room.{other_count, all_over}
use Rattle.bench_names.proofs.hand_over.Goals as goal

pub returns-then-places-ne-PLACES : goal.returns-then-places-ne-PLACES
returns-then-places-ne-PLACES c = refused_done (other_count c.if-places-ne-PLACES.true)

pub bounds-places-k : goal.bounds-places-k
bounds-places-k c = omega (arith, partly_long c.loop-k.invariant, c.loop-k.invariant.at_most)

pub loop-k-preserved : goal.loop-k-preserved
loop-k-preserved c =
    rw (zero-add c.loop-k.k) at (partly_more 0 c.loop-k.invariant c.loop-k-test.true c.from.ensures)

pub returns : goal.returns
returns c = all_over c.loop-k.invariant c.if-places-ne-PLACES.false c.requires c.loop-k-test.false
