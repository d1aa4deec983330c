-- `suspects::report_to_opened` meets its contract: the rules first, then the state is narrowed.
-- Assumes nothing.
use mathlib.Core.Path.{sym, ap, ◌∙◌}
use Rattle.std.specs.Prelude.{Ok}
use Rattle.answers.proofs.Answer.{handed_on}
use Rattle.suspects.specs.declared.Suspects.{Suspects}
use Rattle.suspects.proofs.Says.{taken}
use Rattle.suspects.proofs.Promise.{is_refused, is_taken}
use Rattle.suspects.proofs.report_to_opened.Goals as goal

pub narrow_state-requires : goal.narrow_state-requires
narrow_state-requires c =
    let w = taken _ _ _ _ _ (sym c.check_report.ensures ∙ c.in_ok-check_report.was) in
    (w.opened, rw (← w.faults, ← w.patterns) w.sized, rw (← w.patterns) w.inside)

pub returns-in_err-check_report : goal.returns-in_err-check_report
returns-in_err-check_report c = rw (handed_on c.from_residual.ensures.1) (is_refused (sym c.check_report.ensures ∙ c.in_err-check_report.was))

pub returns : goal.returns
returns c =
    let kept = sym c.check_report.ensures ∙ c.in_ok-check_report.was in
    let w = taken _ _ _ _ _ kept in
    let new = c.narrow_state.ensures ∙ rw (w.faults, w.patterns) in
    is_taken kept (ap (λ (s : Suspects). Ok s.remaining) new) new
