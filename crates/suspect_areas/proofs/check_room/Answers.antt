-- `suspect_areas::check_room` meets its contract: by its test.
-- Assumes nothing.
use borrow.Author.Tests.{eq-eqb, ne_eqb}
use Rattle.answers.specs.Rules.{said, refusal}
use Rattle.suspect_areas.specs.Promise.{room_rules}
use Rattle.suspect_areas.proofs.check_room.Goals as goal

pub returns-then-marks-state : goal.returns-then-marks-state
unfolding room_rules refusal said
returns-then-marks-state c = simp (ne_eqb _ _ c.if-marks-state.true)

pub returns : goal.returns
unfolding room_rules refusal said
returns c = simp (eq-eqb _ _ c.if-marks-state.false)
