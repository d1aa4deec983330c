-- `suspects::check_report` meets its contract: the counts first, then what is lent.
-- Assumes nothing.
use mathlib.Core.Path.{sym, ◌∙◌}
use borrow.Author.Tests.{eq-eqb, ne_eqb}
use Rattle.suspects.proofs.Says.{other_counts, same-counts}
use Rattle.suspects.proofs.check_report.Goals as goal

pub returns-then-fault_count-state : goal.returns-then-fault_count-state
returns-then-fault_count-state c = sym (other_counts _ _ _ _ _ c.requires (rw (ne_eqb _ _ c.if-fault_count-state.true)))

pub returns-then-other_patterns : goal.returns-then-other_patterns
returns-then-other_patterns c =
    sym (other_counts _ _ _ _ _ c.requires (rw (eq-eqb _ _ c.if-fault_count-state.false, ne_eqb _ _ c.if-other_patterns.true)))

pub returns : goal.returns
returns c =
    c.check_given.ensures ∙ sym (same-counts _ _ _ _ _ c.requires c.if-fault_count-state.false c.if-other_patterns.false)
