-- `bench_names::hand_over` meets its contract. The invariant: the places of the lines below k are written.
-- Assumes nothing.
use Rattle.ground.proofs.Put.{Partly}
use Rattle.bench_names.proofs.hand_over.Given as goal

abbrev pub invariant-loop-k : goal.invariant-loop-k
invariant-loop-k l = Partly l.found l.initial.places 0 l.places l.k
