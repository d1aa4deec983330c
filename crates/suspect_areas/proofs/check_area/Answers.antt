-- `suspect_areas::check_area` meets its contract: the size first, then what the bytes hold.
-- Assumes nothing.
use mathlib.Core.Path.{sym, ◌∙◌}
use Rattle.answers.proofs.Rules.{after_refused, after_fine}
use Rattle.answers.proofs.Answer.{handed_on}
use Rattle.suspect_areas.specs.Promise.{size_rules, held_area_rules}
use Rattle.suspect_areas.proofs.Says.{fine_size}
use Rattle.suspect_areas.proofs.check_area.Goals as goal

pub check_held-requires : goal.check_held-requires
check_held-requires c = fine_size _ (sym c.check_size.ensures ∙ c.in_ok-check_size.was)

pub returns-in_err-check_size : goal.returns-in_err-check_size
returns-in_err-check_size c =
    handed_on c.from_residual.ensures.1 ∙ sym (after_refused (size_rules _) (held_area_rules _) (sym c.check_size.ensures ∙ c.in_err-check_size.was))

pub returns : goal.returns
returns c = c.check_held.ensures ∙ sym (after_fine (size_rules _) (held_area_rules _) (sym c.check_size.ensures ∙ c.in_ok-check_size.was))
