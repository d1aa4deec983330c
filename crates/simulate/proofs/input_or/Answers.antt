-- `simulate::input_or` meets its contract: an input reads the pattern.
-- Assumes nothing.
use borrow.Author.Tests.{eq-eqb, ne_eqb}
use Rattle.simulate.specs.Owed.{input_or}
use Rattle.simulate.proofs.input_or.Goals as goal

pub bounds-pattern-used : goal.bounds-pattern-used
bounds-pattern-used c = c.requires.1 c.if-circuit-k-eq0.true

pub returns-then-circuit-k-eq0 : goal.returns-then-circuit-k-eq0
unfolding input_or
returns-then-circuit-k-eq0 c = simp (eq-eqb _ _ c.if-circuit-k-eq0.true)

pub returns : goal.returns
unfolding input_or
returns c = simp (ne_eqb _ _ c.if-circuit-k-eq0.false)
