-- `line_clauses::faulty_kind` meets its contract: one answer for each branch.
-- Assumes nothing.
use borrow.Author.Tests.{eq-eqb, ne_eqb}
use native.Mathlib.Omega.{arith}
use mathlib.Core.Path.{sym, ◌∙◌}
use Rattle.line_clauses.proofs.Lines.{kind_last}
use Rattle.line_clauses.specs.Owed.{faulty_kind}
use Rattle.line_clauses.proofs.faulty_kind.Goals as goal

pub returns-then-is_at : goal.returns-then-is_at
unfolding faulty_kind
returns-then-is_at c = (simp (sym c.is_at.ensures ∙ c.if-is_at.true), omega arith)

pub returns-then-kind-eq0 : goal.returns-then-kind-eq0
unfolding faulty_kind
returns-then-kind-eq0 c = (simp (sym c.is_at.ensures ∙ c.if-is_at.false, eq-eqb _ _ c.if-kind-eq0.true), omega arith)

pub returns : goal.returns
unfolding faulty_kind
returns c = (simp (sym c.is_at.ensures ∙ c.if-is_at.false, ne_eqb _ _ c.if-kind-eq0.false), kind_last c.requires)
