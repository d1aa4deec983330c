-- `suspects::is_opened` meets its contract: by its tests.
-- Assumes nothing.
use mathlib.Core.Path.{sym, ◌∙◌}
use native.Mathlib.Omega.{arith}
use borrow.Author.Rules.{rules}
use borrow.Author.Tests.{not-true, not-false}
use Rattle.tables.proofs.Says.{in_range_lem}
use Rattle.suspects.specs.State.{opened_ok}
use Rattle.suspects.proofs.is_opened.Goals as goal

pub returns-then-not-in_range : goal.returns-then-not-in_range
unfolding opened_ok
returns-then-not-in_range c = simp (sym c.in_range.ensures ∙ not-true _ c.if-not-in_range.true-raw)

pub returns-then-not-in_range-2 : goal.returns-then-not-in_range-2
unfolding opened_ok
returns-then-not-in_range-2 c =
    simp (sym c.in_range.ensures ∙ not-false _ c.if-not-in_range.false-raw, sym c.in_range-2.ensures ∙ not-true _ c.if-not-in_range-2.true-raw)

pub returns-then-some_no_mark : goal.returns-then-some_no_mark
unfolding opened_ok
returns-then-some_no_mark c =
    let some = sym c.some_no_mark.ensures ∙ c.if-some_no_mark.true in
    simp (sym c.in_range.ensures ∙ not-false _ c.if-not-in_range.false-raw, sym c.in_range-2.ensures ∙ not-false _ c.if-not-in_range-2.false-raw, some)

-- there are 256 marks
pub slice_bounds-count_marks-end : goal.slice_bounds-count_marks-end
slice_bounds-count_marks-end c = search rules

pub count_marks-requires : goal.count_marks-requires
count_marks-requires c =
    let few = in_range_lem c.args.state.faults (sym c.in_range.ensures ∙ not-false _ c.if-not-in_range.false-raw) in
    omega (arith, few.1, slice_bounds-count_marks-end c)

pub returns : goal.returns
unfolding opened_ok
returns c =
    let none = sym c.some_no_mark.ensures ∙ c.if-some_no_mark.false in
    simp (sym c.in_range.ensures ∙ not-false _ c.if-not-in_range.false-raw, sym c.in_range-2.ensures ∙ not-false _ c.if-not-in_range-2.false-raw, none, c.count_marks.ensures)
