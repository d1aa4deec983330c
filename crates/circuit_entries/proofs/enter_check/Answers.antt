-- `circuit_entries::enter_check` meets its contract: the answer of the part, reported.
-- Assumes nothing.
use Rattle.circuit.specs.Promise.{checked_numbers}
use Rattle.replies.proofs.Entered.{reported}
use Rattle.circuit_entries.proofs.enter_check.Goals as goal

pub returns : goal.returns
unfolding checked_numbers
returns c =
    reported c.report.ensures c.of_answer.ensures c.check-v.ensures.numbers
