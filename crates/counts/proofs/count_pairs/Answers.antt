-- `counts::count_pairs` meets its contract: by whether g's own entry is known.
-- Assumes nothing.
use borrow.Author.Rules.{rules}
use Rattle.counts.proofs.Moves.{pairs_unknown, pairs_known}
use Rattle.counts.proofs.count_pairs.Goals as goal

pub returns-then-e-gt1 : goal.returns-then-e-gt1
returns-then-e-gt1 c = pairs_unknown _ _ _ (λ k. search rules) c.if-e-gt1.true

pub returns : goal.returns
returns c = pairs_known _ _ _ c.if-e-gt1.false c.count_row.ensures
