-- `states::sized` meets its contract: one answer for each branch.
-- Assumes nothing.
use borrow.Author.Tests.{lt-leb, le-leb}
use Rattle.answers.specs.Rules.{said, refusal}
use Rattle.states.specs.Rules.{after_rules}
use Rattle.states.proofs.sized.Goals as goal

pub returns-then-lines-gt2048 : goal.returns-then-lines-gt2048
unfolding after_rules refusal said
returns-then-lines-gt2048 c = simp (lt-leb _ _ c.if-lines-gt2048.true)

pub returns-then-inputs-gt64 : goal.returns-then-inputs-gt64
unfolding after_rules refusal said
returns-then-inputs-gt64 c = simp (le-leb _ _ c.if-lines-gt2048.false, lt-leb _ _ c.if-inputs-gt64.true)

pub returns : goal.returns
unfolding after_rules refusal said
returns c = simp (le-leb _ _ c.if-lines-gt2048.false, le-leb _ _ c.if-inputs-gt64.false)
