-- `circuit::pin_ok` meets its contract: one comparison serves a source that the kind has and one that it lacks.
-- Assumes nothing.
use Rattle.circuit.proofs.Lines.{limit_ok}
use Rattle.circuit.proofs.pin_ok.Goals as goal

pub returns : goal.returns
returns c = rw (c.source-from.ensures, c.limit.ensures) (limit_ok _ _ _)
