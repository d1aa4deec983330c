-- `search_all::check_rest` meets its contract: a refusal of the faults is handed on, else the sizes decide.
-- Assumes nothing.
use mathlib.Core.Path.{◌≡◌, sym, ◌∙◌}
use Rattle.answers.specs.Rules.{refusal}
use Rattle.answers.proofs.Rules.{after_refused, after_fine}
use Rattle.lists.specs.Faults.{fault_rules}
use Rattle.lists.proofs.Faults.{good_faults}
use Rattle.answers.proofs.Answer.{handed_on}
use Rattle.search_all.proofs.check_rest.Goals as goal
use Rattle.std.specs.Prelude.{Ok}

pub check_sizes-requires : goal.check_sizes-requires
check_sizes-requires c =
    let fine : refusal (fault_rules 256 c.args.circuit.now c.args.faults.now) ≡ Ok tt = sym c.check_faults.ensures ∙ c.in_ok-check_faults.was in
    let good = c.requires.good in
    let g = good_faults 256 c.args.circuit.now c.args.faults.now fine in (
      g.records.few,
      rw c.requires.inputs good.most_inputs,
      rw c.requires.lines good.most_lines,
    )

pub returns-in_err-check_faults : goal.returns-in_err-check_faults
returns-in_err-check_faults c = handed_on c.from_residual.ensures.1 ∙ sym (after_refused (fault_rules 256 _ _) _ (sym c.check_faults.ensures ∙ c.in_err-check_faults.was))

pub returns : goal.returns
returns c =
    let fine : refusal (fault_rules 256 c.args.circuit.now c.args.faults.now) ≡ Ok tt = sym c.check_faults.ensures ∙ c.in_ok-check_faults.was in
    c.check_sizes.ensures ∙ sym (after_fine (fault_rules 256 _ _) _ fine)
