-- `circuit_entries::enter_control` meets its contract: an area of another size first, else the answer and the memory of the part.
-- Assumes nothing.
use borrow.Author.Tests.{eq-eqb, ne_eqb}
use Rattle.replies.proofs.Entered.{other_size, stays, reported, becomes}
use Rattle.circuit_entries.proofs.enter_control.Goals as goal

pub returns-then-answer-ne-AREA : goal.returns-then-answer-ne-AREA
returns-then-answer-ne-AREA c =
    let other = ne_eqb _ _ c.if-answer-ne-AREA.true in
    record { answer = other_size _ other; ones_are = stays _ other; zeros_are = stays _ other }

-- the places, the last first: the report, the answer in numbers, the part, the test of the size
pub returns : goal.returns
returns c =
    let right = eq-eqb _ _ c.if-answer-ne-AREA.false in
    let done = c.control-v.ensures in
    record {
      answer = reported c.report.ensures c.of_answer.ensures done.numbers;
      ones_are = becomes _ right done.ones_are;
      zeros_are = becomes _ right done.zeros_are;
    }
