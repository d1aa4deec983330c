-- `replies::report` meets its contract: an area of another size first, else the numbers.
-- Assumes nothing.
use borrow.Author.Tests.{eq-eqb, ne_eqb}
use Rattle.replies.proofs.Entered.{other_size, right_size}
use Rattle.replies.specs.Replies.{numbers_in}
use Rattle.replies.proofs.report.Goals as goal

pub returns-then-area-ne-AREA : goal.returns-then-area-ne-AREA
returns-then-area-ne-AREA c = other_size _ (ne_eqb _ _ c.if-area-ne-AREA.true)

pub returns : goal.returns
returns c =
    right_size (numbers_in c.args.reply) (eq-eqb _ _ c.if-area-ne-AREA.false) c.put_numbers.ensures
