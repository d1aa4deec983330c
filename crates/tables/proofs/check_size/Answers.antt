-- `tables::check_size` meets its contract: by its test.
-- Assumes nothing.
use borrow.Author.Tests.{eq-eqb, ne_eqb}
use Rattle.answers.specs.Rules.{said, refusal}
use Rattle.tables.specs.Marks.{marks_rules}
use Rattle.tables.proofs.check_size.Goals as goal

pub returns-then-marks-pattern_count : goal.returns-then-marks-pattern_count
unfolding marks_rules refusal said
returns-then-marks-pattern_count c = simp (ne_eqb _ _ c.if-marks-pattern_count.true)

pub returns : goal.returns
unfolding marks_rules refusal said
returns c = simp (eq-eqb _ _ c.if-marks-pattern_count.false)
