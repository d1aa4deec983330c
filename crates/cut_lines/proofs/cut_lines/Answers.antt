-- `cut_lines::cut_lines` meets its contract: two bytes of each line, one line after the other.
-- Assumes nothing.
use native.Mathlib.Omega.{arith}
use lib.ListN.{length-set}
use Rattle.cut_lines.proofs.Lines.{start, more, finished}
use Rattle.cut_lines.proofs.cut_lines.Goals as goal

pub loop-k-init : goal.loop-k-init
loop-k-init c = start c.requires

pub bounds-lines-k-in-loop-k : goal.bounds-lines-k-in-loop-k
bounds-lines-k-in-loop-k c = simp length-set (omega arith)

pub loop-k-preserved : goal.loop-k-preserved
loop-k-preserved c =
    more c.requires c.loop-k.invariant (omega arith) c.cut_kind.ensures c.cut_out.ensures

pub returns : goal.returns
returns c = finished c.requires c.loop-k.invariant (omega arith)
