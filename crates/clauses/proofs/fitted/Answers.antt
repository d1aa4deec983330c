-- `clauses::fitted` meets its contract: refusal 11, or the list.
-- Assumes nothing.
use Rattle.clauses.proofs.Answer.{short, whole_room, fits}
use Rattle.clauses.proofs.fitted.Goals as goal

pub returns-then-words-need : goal.returns-then-words-need
returns-then-words-need c = short c.whole_size-size.ensures c.if-words-need.true

pub put_all-requires : goal.put_all-requires
put_all-requires c = whole_room c.requires c.whole_size-size.ensures c.if-words-need.false

pub returns : goal.returns
returns c =
    fits c.whole_size-size.ensures (rw c.requires.outputs_are) c.if-words-need.false c.put_all.ensures
