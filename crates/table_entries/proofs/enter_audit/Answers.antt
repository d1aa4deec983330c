-- `table_entries::enter_audit` meets its contract: the answer of the part, reported.
-- Assumes nothing.
use Rattle.audit.specs.Promise.{audited_numbers}
use Rattle.replies.proofs.Entered.{reported}
use Rattle.table_entries.proofs.enter_audit.Goals as goal

pub returns : goal.returns
unfolding audited_numbers
returns c =
    reported c.report.ensures c.of_answer.ensures c.audit-v.ensures.numbers
