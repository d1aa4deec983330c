-- `suspects::report` meets its contract: a state that is not opened first, else the report.
-- Assumes nothing.
use mathlib.Core.Path.{sym, ◌∙◌}
use Rattle.suspects.proofs.State.{opened_same}
use Rattle.suspects.proofs.Says.{not_opened}
use Rattle.suspects.proofs.Promise.{is_refused}
use Rattle.suspects.proofs.report.Goals as goal

pub returns-then-not-is_opened : goal.returns-then-not-is_opened
returns-then-not-is_opened c = is_refused (not_opened _ _ _ _ _ (sym c.is_opened.ensures ∙ c.if-not-is_opened.true))

pub report_to_opened-requires : goal.report_to_opened-requires
report_to_opened-requires c = (opened_same _).holds (sym c.is_opened.ensures ∙ c.if-not-is_opened.false)
