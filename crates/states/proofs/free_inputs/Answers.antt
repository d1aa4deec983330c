-- `states::free_inputs` meets its contract: the lines that are free are counted.
-- Assumes nothing.
use Rattle.std.proofs.Common.{rules}
use borrow.Author.Tests.{tests}
use Rattle.ground.proofs.Counting.{count_most}
use Rattle.ground.proofs.Search.{count_over}
use Rattle.states.specs.States.{is_free}
use Rattle.states.proofs.free_inputs.Goals as goal

pub returns : goal.returns
returns c =
    let free = is_free c.args.circuit.now c.args.states.now in
    let counted = count_over free c.filter.ensures.source c.filter.ensures.closure c.count.ensures.ran (λ x r q k. search (rules, tests)) in
    (counted, rw counted (count_most c.args.n free))
