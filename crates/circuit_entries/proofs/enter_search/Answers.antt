-- `circuit_entries::enter_search` meets its contract: an area of another size first, else the answer and the memory of the part.
-- Assumes nothing.
use Rattle.search.specs.Promise.{searched_numbers}
use borrow.Author.Tests.{eq-eqb, ne_eqb}
use Rattle.circuit_entries.proofs.Found.{nothing_found, found_reported}
use Rattle.circuit_entries.proofs.enter_search.Goals as goal

pub returns-then-answer-ne-AREA : goal.returns-then-answer-ne-AREA
returns-then-answer-ne-AREA c = nothing_found (ne_eqb _ _ c.if-answer-ne-AREA.true)

-- the places, the last first: the report, the answer in numbers, the part, the test of the size
pub returns : goal.returns
unfolding searched_numbers
returns c =
    let done = c.search-v.ensures in
    found_reported (eq-eqb _ _ c.if-answer-ne-AREA.false) c.report.ensures c.of_answer.ensures done.numbers done.test done.work
