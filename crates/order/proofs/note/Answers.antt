-- `order::note` meets its contract: an input has no place in the list, and nothing is written.
-- Assumes nothing.
use mathlib.Core.Path.{sym}
use native.Mathlib.Omega.{arith}
use lib.Seq.{set_out}
use Rattle.order.proofs.note.Goals as goal

pub returns-else-s-reader : goal.returns-else-s-reader
returns-else-s-reader c = sym (set_out _ _ _ (omega arith))
