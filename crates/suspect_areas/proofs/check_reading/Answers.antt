-- `suspect_areas::check_reading` meets its contract: what is asked of the area first, then the room for the marks.
-- Assumes nothing.
use mathlib.Core.Path.{sym, ap, ◌∙◌}
use Rattle.answers.specs.Rules.{refusal}
use Rattle.answers.proofs.Rules.{after_refused, after_fine}
use Rattle.answers.proofs.Answer.{handed_on}
use Rattle.suspects.specs.declared.Suspects.{Suspects}
use Rattle.suspect_areas.specs.Promise.{area_rules, room_rules}
use Rattle.suspect_areas.proofs.Says.{fine_area}
use Rattle.suspect_areas.proofs.check_reading.Goals as goal

pub state_in-requires : goal.state_in-requires
state_in-requires c = (fine_area c.args.area.now (sym c.check_area.ensures ∙ c.in_ok-check_area.was)).size

pub returns-in_err-check_area : goal.returns-in_err-check_area
returns-in_err-check_area c =
    handed_on c.from_residual.ensures.1 ∙ sym (after_refused (area_rules _) (room_rules _ _) (sym c.check_area.ensures ∙ c.in_err-check_area.was))

pub returns : goal.returns
returns c =
    let m = c.args.marks.now in
    c.check_room.ensures ∙ ap (λ (x : Suspects). refusal (room_rules x m)) c.state_in.ensures ∙ sym (after_fine (area_rules _) (room_rules _ _) (sym c.check_area.ensures ∙ c.in_ok-check_area.was))
