-- `tables::check_table` meets its contract: by its tests, in the order of the rules.
-- Assumes nothing.
use mathlib.Core.Path.{refl, sym, ◌∙◌}
use borrow.Author.Tests.{not-true, not-false}
use Rattle.answers.proofs.Places.{whole_broken, place_broken, none_broken}
use Rattle.tables.specs.Table.{table_rules}
use Rattle.tables.proofs.check_table.Goals as goal

pub returns-then-not-sizes_ok : goal.returns-then-not-sizes_ok
unfolding table_rules
returns-then-not-sizes_ok c = whole_broken _ refl (sym c.sizes_ok.ensures ∙ not-true _ c.if-not-sizes_ok.true-raw)

pub returns-then-bad-table : goal.returns-then-bad-table
unfolding table_rules
returns-then-bad-table c = place_broken _ refl (sym c.sizes_ok.ensures ∙ not-false _ c.if-not-sizes_ok.false-raw) c.first_big-bad.ensures c.if-bad-table.true

pub returns : goal.returns
unfolding table_rules
returns c = none_broken _ refl (sym c.sizes_ok.ensures ∙ not-false _ c.if-not-sizes_ok.false-raw) c.first_big-bad.ensures c.if-bad-table.false
