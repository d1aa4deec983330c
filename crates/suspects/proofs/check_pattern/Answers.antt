-- `suspects::check_pattern` meets its contract: by its test.
-- Assumes nothing.
use borrow.Author.Tests.{lt-ltb, le-ltb}
use Rattle.answers.specs.Rules.{said, refusal}
use Rattle.suspects.specs.Promise.{pattern_rules}
use Rattle.suspects.proofs.check_pattern.Goals as goal

pub returns-then-pattern-pattern_count : goal.returns-then-pattern-pattern_count
unfolding pattern_rules refusal said
returns-then-pattern-pattern_count c = simp (lt-ltb _ _ c.if-pattern-pattern_count.true)

pub returns : goal.returns
unfolding pattern_rules refusal said
returns c = simp (le-ltb _ _ c.if-pattern-pattern_count.false)
