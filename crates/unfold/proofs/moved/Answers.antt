-- `unfold::moved` meets its contract: by whether the kind has the pin.
-- Assumes nothing.
use native.Mathlib.Omega.{arith}
use Rattle.unfold.proofs.Line.{moved_few, moved_has, moved_lacks}
use Rattle.unfold.proofs.moved.Goals as goal

pub overflow_add-further : goal.overflow_add-further
overflow_add-further c =
    rw c.source.ensures (omega (arith, moved_few c.requires.0 c.args.s c.requires.1 c.requires.2 (rw c.pins.ensures at c.if-s-pins.true)))

pub narrow-requires : goal.narrow-requires
narrow-requires c =
    rw c.source.ensures (omega (arith, moved_few c.requires.0 c.args.s c.requires.1 c.requires.2 (rw c.pins.ensures at c.if-s-pins.true)))

pub returns-then-s-pins : goal.returns-then-s-pins
returns-then-s-pins c = rw (c.narrow.ensures, c.source.ensures) (moved_has _ _ _ _ (rw c.pins.ensures at c.if-s-pins.true))

pub returns : goal.returns
returns c = moved_lacks _ _ _ _ (rw c.pins.ensures at c.if-s-pins.false)
