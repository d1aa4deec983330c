-- `lists::check_patterns` meets its contract: one answer for each branch.
-- Assumes nothing.
use borrow.Author.Tests.{not-true, not-false}
use mathlib.Core.Path.{refl, sym, ◌∙◌}
use Rattle.answers.proofs.Places.{whole_broken, place_broken, none_broken}
use Rattle.lists.specs.Patterns.{pattern_rules}
use Rattle.lists.proofs.check_patterns.Goals as goal

pub returns-then-not-records_ok : goal.returns-then-not-records_ok
unfolding pattern_rules
returns-then-not-records_ok c = whole_broken _ refl (sym c.records_ok.ensures ∙ not-true _ c.if-not-records_ok.true-raw)

pub returns-then-bad-patterns : goal.returns-then-bad-patterns
unfolding pattern_rules
returns-then-bad-patterns c = place_broken _ refl (sym c.records_ok.ensures ∙ not-false _ c.if-not-records_ok.false-raw) c.first_big-bad.ensures c.if-bad-patterns.true

pub returns : goal.returns
unfolding pattern_rules
returns c = none_broken _ refl (sym c.records_ok.ensures ∙ not-false _ c.if-not-records_ok.false-raw) c.first_big-bad.ensures c.if-bad-patterns.false
