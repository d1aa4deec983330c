-- `circuit_entries::enter_search_all` meets its contract: an area of another size first, else the answer and the memory of the part.
-- Assumes nothing.
use borrow.Author.Tests.{eq-eqb, ne_eqb}
use Rattle.replies.proofs.Entered.{other_size, stays, reported, becomes}
use Rattle.circuit_entries.proofs.enter_search_all.Goals as goal

pub returns-then-answer-ne-AREA : goal.returns-then-answer-ne-AREA
returns-then-answer-ne-AREA c =
    let other = ne_eqb _ _ c.if-answer-ne-AREA.true in
    record { answer = other_size _ other; outcomes = stays _ other; counts = stays _ other; tests = stays _ other; work = stays _ other }

-- the places, the last first: the report, the answer in numbers, the part, the test of the size
pub returns : goal.returns
returns c =
    let right = eq-eqb _ _ c.if-answer-ne-AREA.false in
    let done = c.search_all-v.ensures in
    record {
      answer = reported c.report.ensures c.of_answer.ensures done.numbers;
      outcomes = becomes _ right done.outcomes;
      counts = becomes _ right done.counts;
      tests = becomes _ right done.tests;
      work = becomes _ right done.work;
    }
