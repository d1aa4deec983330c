-- `suspects::all_remain` meets its contract: the marks are laid over zeros, and all are counted.
-- Assumes nothing.
use mathlib.Core.Path.{sym, ◌∙◌, refl}
use mathlib.Core.Bool.{true}
use Rattle.ground.proofs.Counting.{count_all}
use Rattle.reports.proofs.Marks.{laid_marks}
use Rattle.suspects.proofs.State.{made}
use Rattle.suspects.proofs.all_remain.Goals as goal

pub returns : goal.returns
returns c =
    let F = c.args.fault_count in
    made (λ f. true) (c.mark_all.ensures ∙ laid_marks F (λ f. true)) (sym (count_all F (λ f. true) (λ k l. refl)))
