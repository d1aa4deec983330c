-- `clocked_entries::enter_unfold_dictionary` meets its contract: an area of another size first, else the answer and the memory of the part.
-- Assumes nothing.
use borrow.Author.Tests.{eq-eqb, ne_eqb}
use Rattle.replies.proofs.Made.{nothing_made, made_reported}
use Rattle.clocked_entries.proofs.enter_unfold_dictionary.Goals as goal

pub returns-then-answer-ne-AREA : goal.returns-then-answer-ne-AREA
returns-then-answer-ne-AREA c = nothing_made (ne_eqb _ _ c.if-answer-ne-AREA.true)

-- the places, the last first: the report, the answer in numbers, the part, the test of the size
pub returns : goal.returns
returns c =
    let done = c.unfold_dictionary-v.ensures in
    made_reported (eq-eqb _ _ c.if-answer-ne-AREA.false) c.report.ensures c.of_answer.ensures done.numbers done.table done.work
