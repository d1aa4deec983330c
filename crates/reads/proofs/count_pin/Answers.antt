-- `reads::count_pin` meets its contract: the byte of the source, and no other, counts one reading more.
-- Assumes nothing.
use native.Mathlib.Omega.{arith}
use Rattle.reads.proofs.Counted.{pin_counted}
use Rattle.reads.proofs.count_pin.Goals as goal

pub bounds-reads-k : goal.bounds-reads-k
bounds-reads-k c =
    omega (arith, c.source-k.ensures, c.requires.0.inside c.args.j c.args.s c.requires.1 c.requires.2 c.requires.3)

pub returns : goal.returns
returns c =
    pin_counted _ _ _ _ c.source-k.ensures
    (omega (arith, c.source-k.ensures, c.requires.0.inside c.args.j c.args.s c.requires.1 c.requires.2 c.requires.3))
    c.one_more.ensures
