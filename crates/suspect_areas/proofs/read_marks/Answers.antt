-- `suspect_areas::read_marks` meets its contract: the rules first, then the marks of the state that stands there.
-- Assumes nothing.
use mathlib.Core.Path.{sym, ◌∙◌}
use native.Mathlib.Omega.{arith}
use Rattle.answers.proofs.Answer.{handed_on}
use Rattle.suspect_areas.proofs.Held.{marks_long}
use Rattle.suspect_areas.proofs.Says.{fine_marks}
use Rattle.suspect_areas.proofs.Promise.{reading_refused, reading_fine}
use Rattle.suspect_areas.proofs.read_marks.Goals as goal

pub state_in-state-requires : goal.state_in-state-requires
state_in-state-requires c = (fine_marks c.args.area.now c.args.marks.now (sym c.check_reading.ensures ∙ c.in_ok-check_reading.was)).0.size

pub put_marks-requires : goal.put_marks-requires
put_marks-requires c =
    let area = c.args.area.now in
    let w = fine_marks area c.args.marks.now (sym c.check_reading.ensures ∙ c.in_ok-check_reading.was) in
    rw c.state_in-state.ensures (w.1, omega (arith, w.0.opened.few_faults, marks_long area w.0.size))

pub returns-in_err-check_reading : goal.returns-in_err-check_reading
returns-in_err-check_reading c =
    rw (handed_on c.from_residual.ensures.1) (reading_refused c.args.area.now c.args.marks.now (sym c.check_reading.ensures ∙ c.in_err-check_reading.was))

pub returns : goal.returns
returns c =
    reading_fine c.args.area.now c.args.marks.now (sym c.check_reading.ensures ∙ c.in_ok-check_reading.was) c.state_in-state.ensures c.put_marks.ensures
