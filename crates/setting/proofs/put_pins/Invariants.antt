-- `setting::put_pins` meets its contract: one pin after the other.
-- Assumes nothing.
use Rattle.setting.proofs.Lines.{Pins}
use Rattle.setting.proofs.put_pins.Given as goal

abbrev pub invariant-loop-s : goal.invariant-loop-s
invariant-loop-s l = Pins l.circuit l.k l.v l.initial.want l.kind l.s-end l.want l.s
