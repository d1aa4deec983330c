-- `clauses::put_last` meets its contract. The invariant: j literals have been written.
-- Assumes nothing.
use native.Mathlib.Omega.{arith}
use Rattle.clauses.proofs.Loops.{last_none, last_more, last_all}
use Rattle.line_clauses.proofs.Lines.{variable}
use Rattle.cnf.proofs.Signed.{plus_is}
use Rattle.ground.proofs.Put.{put_long}
use Rattle.clauses.proofs.put_last.Goals as goal

pub loop-j-init : goal.loop-j-init
loop-j-init c = last_none _ _ _ _

pub plus-requires : goal.plus-requires
plus-requires c = variable (omega arith)

pub bounds-words-at : goal.bounds-words-at
bounds-words-at c = omega (arith, put_long c.loop-j.invariant.put)

pub loop-j-preserved : goal.loop-j-preserved
loop-j-preserved c = last_more c.loop-j.invariant (omega arith) (rw c.plus.ensures (plus_is _ (variable (omega arith))))

pub slice_set_of-words : goal.slice_set_of-words
slice_set_of-words c = omega (arith, put_long c.loop-j.invariant.put)

pub returns : goal.returns
returns c = last_all c.loop-j.invariant (omega arith)
