-- `head_marks::mark_line` meets its contract: a bound line is marked and then its sources; of a free one nothing changes.
-- Assumes nothing.
use mathlib.Core.Path.{refl}
use lib.ListN.{length-set}
use Rattle.head_marks.proofs.Lines.{bound-marked, free-left}
use Rattle.head_marks.proofs.mark_line.Goals as goal

pub is_bound-requires : goal.is_bound-requires
is_bound-requires c = let p = c.requires in (p.sourced, p.counted.long, p.line)

pub mark_sources-requires : goal.mark_sources-requires
mark_sources-requires c = let p = c.requires in simp length-set (p.sourced, p.line)

pub returns-then-is_bound : goal.returns-then-is_bound
returns-then-is_bound c =
    λ so. bound-marked c.requires c.args.marks.now so refl c.is_bound.ensures c.if-is_bound.true c.mark_sources.ensures

pub returns-else-is_bound : goal.returns-else-is_bound
returns-else-is_bound c =
    λ so. free-left c.requires c.args.marks.now so c.is_bound.ensures c.if-is_bound.false
