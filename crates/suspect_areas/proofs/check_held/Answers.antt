-- `suspect_areas::check_held` meets its contract: by its test.
-- Assumes nothing.
use mathlib.Core.Path.{sym, ◌∙◌}
use Rattle.answers.specs.Rules.{said, refusal}
use Rattle.suspect_areas.specs.Promise.{held_area_rules}
use Rattle.suspect_areas.proofs.check_held.Goals as goal

pub returns-then-holds_state : goal.returns-then-holds_state
unfolding held_area_rules refusal said
returns-then-holds_state c = simp (sym c.holds_state.ensures ∙ c.if-holds_state.true)

pub returns : goal.returns
unfolding held_area_rules refusal said
returns c = simp (sym c.holds_state.ensures ∙ c.if-holds_state.false)
