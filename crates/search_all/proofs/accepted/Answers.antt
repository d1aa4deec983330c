-- `search_all::accepted` meets its contract: a refusal writes nothing, else the list is searched.
-- Assumes nothing.
use mathlib.Core.Path.{◌≡◌, sym, ◌∙◌}
use borrow.Author.Rules.{rules}
use lib.ListN.{length}
use Rattle.answers.specs.Rules.{refusal}
use Rattle.answers.proofs.Answer.{refused_done, handed_on}
use Rattle.search_all.specs.Promise.{search_all_rest_rules}
use Rattle.list_search.specs.Owed.{SearchesReady}
use Rattle.search_all.proofs.Answer.{ready, list_searched}
use Rattle.search_all.proofs.accepted.Goals as goal
use Rattle.std.specs.Prelude.{Ok}

pub search_list-requires : goal.search_list-requires
search_list-requires c =
    let fine : refusal (search_all_rest_rules c.args.circuit.now c.args.faults.now c.args.inputs c.args.n (length c.args.budgets.now) (length c.args.outcomes.now) (length c.args.counts.now) (length c.args.tests.now) (length c.args.work.now)) ≡ Ok tt = sym c.check_rest.ensures ∙ c.in_ok-check_rest.was in
    let is_ready : SearchesReady c.args.circuit.now c.args.faults.now c.args.n c.args.inputs (length c.args.budgets.now) (length c.args.outcomes.now) (length c.args.counts.now) (length c.args.tests.now) (length c.args.work.now) = ready _ _ _ _ _ _ _ _ _ c.requires (fine) in
    is_ready

pub returns-in_err-check_rest : goal.returns-in_err-check_rest
returns-in_err-check_rest c = rw (handed_on c.from_residual.ensures.1) (refused_done (sym c.check_rest.ensures ∙ c.in_err-check_rest.was))

pub returns : goal.returns
returns c =
    let fine : refusal (search_all_rest_rules c.args.circuit.now c.args.faults.now c.args.inputs c.args.n (length c.args.budgets.now) (length c.args.outcomes.now) (length c.args.counts.now) (length c.args.tests.now) (length c.args.work.now)) ≡ Ok tt = sym c.check_rest.ensures ∙ c.in_ok-check_rest.was in
    let is_ready : SearchesReady c.args.circuit.now c.args.faults.now c.args.n c.args.inputs (length c.args.budgets.now) (length c.args.outcomes.now) (length c.args.counts.now) (length c.args.tests.now) (length c.args.work.now) = ready _ _ _ _ _ _ _ _ _ c.requires (fine) in
    list_searched fine is_ready (search rules) (search rules) (search rules) c.search_list.ensures
