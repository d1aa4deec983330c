-- `circuit_entries::enter_bench_names` meets its contract: an area of another size first, else the answer and the places of the part.
-- Assumes nothing.
use Rattle.bench.specs.Promise.{read_numbers}
use borrow.Author.Tests.{eq-eqb, ne_eqb}
use Rattle.replies.proofs.Lent.{nothing_lent, lent_reported}
use Rattle.circuit_entries.proofs.enter_bench_names.Goals as goal

pub returns-then-answer-ne-AREA : goal.returns-then-answer-ne-AREA
returns-then-answer-ne-AREA c = nothing_lent (ne_eqb _ _ c.if-answer-ne-AREA.true)

-- the places, the last first: the report, the answer in numbers, the part, the test of the size
pub returns : goal.returns
unfolding read_numbers
returns c =
    let done = c.bench_names-v.ensures in
    lent_reported (eq-eqb _ _ c.if-answer-ne-AREA.false) c.report.ensures c.of_answer.ensures done.numbers done.places
