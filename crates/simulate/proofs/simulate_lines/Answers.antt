-- `simulate::simulate_lines` meets its contract. The invariant: under every pattern and forcing of 0, 1 and X that leaves these lines alone, the lines passed are settled.
-- Assumes nothing.
use native.Mathlib.Omega.{arith}
use Rattle.simulate.specs.Owed.{ThreeValued}
use Rattle.simulate.specs.Simulate.{unforced}
use Rattle.simulate.proofs.Small.{agreed_small}
use Rattle.simulate.proofs.Settled as settled
use Rattle.simulate.proofs.Settled.{more, finished}
use Rattle.simulate.proofs.simulate_lines.Goals as goal

pub loop-k-init : goal.loop-k-init
loop-k-init c = settled.start ThreeValued _ _ _ _ c.requires.1

pub line_value-requires : goal.line_value-requires
line_value-requires c =
    let so = c.loop-k.invariant in
    rw so.long (c.requires.0, omega (arith, c.requires.2))

pub bounds-values-k : goal.bounds-values-k
bounds-values-k c = omega (arith, c.loop-k.invariant.long, c.requires.2)

pub loop-k-preserved : goal.loop-k-preserved
loop-k-preserved c =
    let ordered = c.requires.0 in
    more c.loop-k.invariant ordered c.requires.2 (omega arith)
    (λ f p small so left. c.line_value.ensures (agreed_small small _ (ordered.lower _ (omega (arith, c.requires.2))) so unforced left))

pub returns : goal.returns
returns c = finished c.loop-k.invariant (omega arith)
