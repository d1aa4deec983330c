-- `circuit::check_counts` meets its contract: one answer for each branch.
-- Assumes nothing.
use borrow.Author.Tests.{lt-leb, le-leb}
use Rattle.circuit.specs.Promise.{count_rules}
use Rattle.answers.specs.Rules.{said, refusal}
use Rattle.circuit.proofs.check_counts.Goals as goal

pub returns-then-inputs-gt-MOST_INPUTS : goal.returns-then-inputs-gt-MOST_INPUTS
unfolding count_rules refusal said
returns-then-inputs-gt-MOST_INPUTS c = simp (lt-leb _ _ c.if-inputs-gt-MOST_INPUTS.true)

pub returns-then-outputs-lt1 : goal.returns-then-outputs-lt1
unfolding count_rules refusal said
returns-then-outputs-lt1 c = simp (le-leb _ _ c.if-inputs-gt-MOST_INPUTS.false, lt-leb _ _ c.if-outputs-lt1.true)

pub returns : goal.returns
unfolding count_rules refusal said
returns c = simp (le-leb _ _ c.if-inputs-gt-MOST_INPUTS.false, le-leb _ _ c.if-outputs-lt1.false)
