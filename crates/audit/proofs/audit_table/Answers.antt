-- `audit::audit_table` meets its contract: the marks first, then what the tallies show.
-- Assumes nothing.
use Rattle.inspect.proofs.InOrder.{found_bad, marks_ready}
use Rattle.audit.proofs.audit_table.Goals as goal

pub returns-then-bad-patterns : goal.returns-then-bad-patterns
returns-then-bad-patterns c =
    found_bad _ c.requires.marks_len c.first_bad-bad.ensures _ _ c.if-bad-patterns.true

pub find_in-requires-clause-marks_ready : goal.find_in-requires-clause-marks_ready
find_in-requires-clause-marks_ready c = marks_ready _ c.requires.marks_len c.first_bad-bad.ensures c.if-bad-patterns.false

pub find_in-requires-else-faults-lt16-clause-marks_ready : goal.find_in-requires-else-faults-lt16-clause-marks_ready
find_in-requires-else-faults-lt16-clause-marks_ready c = marks_ready _ c.requires.marks_len c.first_bad-bad.ensures c.if-bad-patterns.false
