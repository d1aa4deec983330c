-- `setting::put_pins` meets its contract: one pin after the other.
-- Assumes nothing.
use mathlib.Core.Path.{refl}
use native.Mathlib.Omega.{arith}
use Prim.Native.Nat.{◌+◌}
use Rattle.setting.proofs.Lines.{no_pin, next-pin, all_pins}
use Rattle.setting.proofs.put_pins.Goals as goal

pub loop-s-init : goal.loop-s-init
loop-s-init c = no_pin refl c.pins-s-end.ensures

pub source-i-requires : goal.source-i-requires
source-i-requires c = (record { inside = omega arith }, omega arith)

pub bounds-want-i : goal.bounds-want-i
bounds-want-i c =
    let below = c.requires.0.inside c.args.k (c.loop-s.s + 1) c.requires.1 (omega arith) (omega arith) in
    omega (arith, c.source-i.ensures, c.loop-s.invariant.long, below)

pub loop-s-preserved : goal.loop-s-preserved
loop-s-preserved c = next-pin c.loop-s.invariant (omega arith) c.need.ensures c.source-i.ensures

pub returns : goal.returns
returns c = all_pins c.loop-s.invariant (omega arith)
