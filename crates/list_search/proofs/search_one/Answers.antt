-- `list_search::search_one` meets its contract: the search gets the fault's own part of the tests, and its verdict is written as numbers.
-- Assumes nothing.
use mathlib.Core.Path.{refl}
use native.Mathlib.Omega.{arith}
use Rattle.list_search.proofs.Parts.{record_inside, part_inside, one-ready, one-done}
use Rattle.list_search.proofs.search_one.Goals as goal

pub read_fault-fault-requires : goal.read_fault-fault-requires
read_fault-fault-requires c = record_inside c.requires.0 c.requires.1

pub overflow_mul-from : goal.overflow_mul-from
overflow_mul-from c = omega (arith, part_inside c.requires.0 c.requires.1)

pub overflow_add-to : goal.overflow_add-to
overflow_add-to c = omega (arith, part_inside c.requires.0 c.requires.1)

pub run_all_x-found-requires : goal.run_all_x-found-requires
run_all_x-found-requires c =
    one-ready c.args.tests.now c.requires.0 c.requires.1 c.read_fault-fault.ensures

pub returns : goal.returns
returns c =
    one-done c.args.outcomes.now c.args.counts.now c.args.tests.now c.requires.0 c.requires.1
    c.run_all_x-found.new.test c.read_fault-fault.ensures refl c.tests-1.given.0 c.run_all_x-found.ensures c.outcome_of.ensures c.nodes_of.ensures
