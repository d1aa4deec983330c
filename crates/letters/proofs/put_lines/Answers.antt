-- `letters::put_lines` meets its contract. The invariant: the lines of the first p patterns stand.
-- Assumes nothing.
use lib.ListN.{length-take}
use native.Mathlib.Omega.{arith}
use Rattle.ground.proofs.Put.{put_none}
use Rattle.letters.proofs.Lines.{line-fits, more}
use Rattle.letters.proofs.put_lines.Goals as goal

pub loop-p-init : goal.loop-p-init
loop-p-init c = put_none _ _

pub put_line-at-requires : goal.put_line-at-requires
put_line-at-requires c = simp length-take (omega (arith, line-fits c.requires c.loop-p-test.true c.loop-p.invariant, c.requires.few_faults))

pub loop-p-preserved : goal.loop-p-preserved
loop-p-preserved c = more _ _ _ _ c.loop-p.invariant c.put_line-at.ensures
