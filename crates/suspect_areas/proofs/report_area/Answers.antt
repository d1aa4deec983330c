-- `suspect_areas::report_area` meets its contract: what is asked of the area first, then the report to the state that stands there.
-- Assumes nothing.
use mathlib.Core.Path.{sym, ◌∙◌}
use Rattle.answers.proofs.Answer.{handed_on}
use Rattle.reports.specs.Reports.{report_of}
use Rattle.suspect_areas.proofs.Says.{fine_area}
use Rattle.suspect_areas.proofs.Promise.{still_opened, area_refused, report_refused, area_reported}
use Rattle.suspect_areas.proofs.report_area.Goals as goal

pub state_in-state-requires : goal.state_in-state-requires
state_in-state-requires c = (fine_area c.args.area.now (sym c.check_area.ensures ∙ c.in_ok-check_area.was)).size

pub report_to_opened-requires : goal.report_to_opened-requires
report_to_opened-requires c = rw c.state_in-state.ensures (fine_area c.args.area.now (sym c.check_area.ensures ∙ c.in_ok-check_area.was)).opened

pub put_state-requires : goal.put_state-requires
put_state-requires c =
    let a = c.args in
    let held = fine_area a.area.now (sym c.check_area.ensures ∙ c.in_ok-check_area.was) in
    (still_opened (report_of a.fault_count a.pattern_count a.table.now a.pattern a.failed) (rw c.state_in-state.ensures held.opened) c.report_to_opened.ensures, held.size)

pub returns-in_err-check_area : goal.returns-in_err-check_area
returns-in_err-check_area c =
    let a = c.args in
    rw (handed_on c.from_residual.ensures.1)
    (area_refused a.area.now (report_of a.fault_count a.pattern_count a.table.now a.pattern a.failed) (sym c.check_area.ensures ∙ c.in_err-check_area.was))

pub returns-in_err-remaining : goal.returns-in_err-remaining
returns-in_err-remaining c =
    let a = c.args in
    rw (handed_on c.from_residual-in_err-remaining.ensures.1)
    (report_refused a.area.now (report_of a.fault_count a.pattern_count a.table.now a.pattern a.failed) (sym c.check_area.ensures ∙ c.in_ok-check_area.was)
    c.state_in-state.ensures (rw c.in_err-remaining.was at c.report_to_opened.ensures))

pub returns : goal.returns
returns c =
    let a = c.args in
    area_reported a.area.now (report_of a.fault_count a.pattern_count a.table.now a.pattern a.failed) (sym c.check_area.ensures ∙ c.in_ok-check_area.was)
    c.state_in-state.ensures (rw c.in_ok-remaining.was at c.report_to_opened.ensures) c.put_state.ensures
