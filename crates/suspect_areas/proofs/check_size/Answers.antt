-- `suspect_areas::check_size` meets its contract: by its test.
-- Assumes nothing.
use borrow.Author.Tests.{eq-eqb, ne_eqb}
use Rattle.answers.specs.Rules.{said, refusal}
use Rattle.suspect_areas.specs.Promise.{size_rules}
use Rattle.suspect_areas.proofs.check_size.Goals as goal

pub returns-then-area-ne-SIZE : goal.returns-then-area-ne-SIZE
unfolding size_rules refusal said
returns-then-area-ne-SIZE c = simp (ne_eqb _ _ c.if-area-ne-SIZE.true)

pub returns : goal.returns
unfolding size_rules refusal said
returns c = simp (eq-eqb _ _ c.if-area-ne-SIZE.false)
