-- `nets::lay` meets its contract: refusal 10, or the records in the buffer.
-- Assumes nothing.
use Rattle.answers.proofs.Answer.{refused_done}
use Rattle.nets.proofs.Answer.{other_size, laid}
use lib.Seq.{take-length}
use Rattle.nets.proofs.lay.Goals as goal

pub returns-then-circuit-ne-LENT : goal.returns-then-circuit-ne-LENT
returns-then-circuit-ne-LENT c = refused_done (other_size c.if-circuit-ne-LENT.true)

pub returns : goal.returns
returns c =
    laid c.if-circuit-ne-LENT.false c.requires (rw (c.copy_from_slice.ensures.after, take-length c.args.records.now))
