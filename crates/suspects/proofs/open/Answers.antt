-- `suspects::open` meets its contract: the rules of the table first, then all faults remain.
-- Assumes nothing.
use mathlib.Core.Path.{refl, sym, ◌∙◌}
use native.Mathlib.Omega.{arith}
use Rattle.answers.proofs.Answer.{handed_on}
use Rattle.tables.proofs.Says.{fine_sized}
use Rattle.suspects.proofs.Promise.{is_refused, is_taken}
use Rattle.suspects.proofs.open.Goals as goal

pub all_remain-requires : goal.all_remain-requires
all_remain-requires c = let sized = fine_sized _ _ _ (sym c.check_table.ensures ∙ c.in_ok-check_table.was) in omega (arith, sized.few_faults)

pub returns-in_err-check_table : goal.returns-in_err-check_table
returns-in_err-check_table c = rw (handed_on c.from_residual.ensures.1) (is_refused (sym c.check_table.ensures ∙ c.in_err-check_table.was))

pub returns : goal.returns
returns c = is_taken (sym c.check_table.ensures ∙ c.in_ok-check_table.was) refl c.all_remain.ensures
