-- `list_search::search_others` meets its contract: the walk gets the parts below `last`.
-- Assumes nothing.
use mathlib.Core.Path.{sym}
use native.Mathlib.Omega.{arith}
use Rattle.list_search.proofs.Parts.{part_inside, first_outcomes, first_counts, first_tests, others-ready, others-done}
use Rattle.list_search.proofs.search_others.Goals as goal

pub overflow_mul-to : goal.overflow_mul-to
overflow_mul-to c = omega (arith, part_inside c.requires.0 c.requires.1)

pub slice_bounds-walk_all-end-2 : goal.slice_bounds-walk_all-end-2
slice_bounds-walk_all-end-2 c = sym (first_outcomes c.args.outcomes.now c.args.counts.now c.args.tests.now c.requires.0 c.requires.1)

pub slice_bounds-walk_all-end-4 : goal.slice_bounds-walk_all-end-4
slice_bounds-walk_all-end-4 c = sym (first_counts c.args.outcomes.now c.args.counts.now c.args.tests.now c.requires.0 c.requires.1)

pub slice_bounds-walk_all-end-5 : goal.slice_bounds-walk_all-end-5
slice_bounds-walk_all-end-5 c = omega (arith, part_inside c.requires.0 c.requires.1)

pub slice_bounds-walk_all-end-6 : goal.slice_bounds-walk_all-end-6
slice_bounds-walk_all-end-6 c = sym (first_tests c.args.outcomes.now c.args.counts.now c.args.tests.now c.requires.0 c.requires.1)

pub walk_all-requires : goal.walk_all-requires
walk_all-requires c = others-ready c.args.outcomes.now c.args.counts.now c.args.tests.now c.requires.0 c.requires.1

pub returns : goal.returns
returns c =
    others-done c.args.outcomes.now c.args.counts.now c.args.tests.now c.requires.0 c.requires.1
    c.walk_all.new.outcomes c.walk_all.new.counts c.walk_all.new.tests
    c.outcomes-1.given.0
    c.counts-1.given.0 c.tests-1.given.0 c.walk_all.ensures
