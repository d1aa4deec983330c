-- `search::accepted` meets its contract: a refusal is handed on, else the fault is read and the search run.
-- Assumes nothing.
use mathlib.Core.Path.{◌≡◌, sym, ◌∙◌}
use lib.ListN.{length}
use Rattle.answers.specs.Rules.{refusal}
use Rattle.search.specs.Promise.{search_rest_rules}
use Rattle.answers.proofs.Answer.{refused_done, handed_on}
use Rattle.search.proofs.Answer.{fault_inside, runs, rest_fine}
use Rattle.search.proofs.accepted.Goals as goal
use Rattle.std.specs.Prelude.{Ok}

pub read_fault-at-requires : goal.read_fault-at-requires
read_fault-at-requires c =
    let fine : refusal (search_rest_rules c.args.circuit.now c.args.fault.now c.args.inputs c.args.n (length c.args.test.now) (length c.args.work.now)) ≡ Ok tt = sym c.check_rest.ensures ∙ c.in_ok-check_rest.was in
    fault_inside _ _ _ _ _ _ fine

pub run_all_x-found-requires : goal.run_all_x-found-requires
run_all_x-found-requires c =
    let fine : refusal (search_rest_rules c.args.circuit.now c.args.fault.now c.args.inputs c.args.n (length c.args.test.now) (length c.args.work.now)) ≡ Ok tt = sym c.check_rest.ensures ∙ c.in_ok-check_rest.was in
    runs _ _ _ _ _ _ fine c.read_fault-at.ensures c.requires

pub returns-in_err-check_rest : goal.returns-in_err-check_rest
returns-in_err-check_rest c = rw (handed_on c.from_residual.ensures.1) (refused_done (sym c.check_rest.ensures ∙ c.in_err-check_rest.was))

pub returns : goal.returns
returns c =
    let fine : refusal (search_rest_rules c.args.circuit.now c.args.fault.now c.args.inputs c.args.n (length c.args.test.now) (length c.args.work.now)) ≡ Ok tt = sym c.check_rest.ensures ∙ c.in_ok-check_rest.was in
    rest_fine fine c.read_fault-at.ensures c.requires c.run_all_x-found.ensures
