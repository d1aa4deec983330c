-- `order::readers` meets its contract. The invariant: what is written is right for the gates from h on.
-- Assumes nothing.
use native.Mathlib.Omega.{arith}
use Rattle.order.proofs.FirstReaders.{start, more, finished}
use Rattle.order.proofs.readers.Goals as goal

pub loop-h-init : goal.loop-h-init
loop-h-init c = start (omega arith)

pub loop-h-preserved : goal.loop-h-preserved
loop-h-preserved c =
    rw (c.note-in-loop-h.ensures, c.from-in-loop-h.ensures, c.note.ensures, c.from.ensures)
    (more c.loop-h.invariant (omega arith))

pub returns : goal.returns
returns c = finished c.loop-h.invariant (omega arith)
