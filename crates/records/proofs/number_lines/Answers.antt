-- `records::number_lines` meets its contract. The invariant: the gates from i on have their lines.
-- Assumes nothing.
use Prim.Native.Nat.{◌-◌}
use native.Mathlib.Omega.{arith}
use Rattle.records.proofs.Numbering.{from_none, from_more, from_all}
use Rattle.records.proofs.number_lines.Goals as goal

pub loop-i-init : goal.loop-i-init
loop-i-init c = from_none _ _ _

pub bounds-line-from : goal.bounds-line-from
bounds-line-from c =
    let l = c.loop-i in
    rw c.from.ensures (omega (arith, c.requires.gates (l.i - 1) (omega arith), l.invariant.long))

pub loop-i-preserved : goal.loop-i-preserved
loop-i-preserved c =
    let l = c.loop-i in
    rw c.narrow.ensures
    (from_more l.invariant (omega arith) c.from.ensures
    (rw c.from.ensures (c.requires.gates (l.i - 1) (omega arith))))

pub returns : goal.returns
returns c = from_all c.loop-i.invariant (omega arith)
