-- `cnf::put_clause` meets its contract: the literals, and behind them a 0. The invariant: the first i stand.
-- Assumes nothing.
use mathlib.Core.Path.{◌≡◌}
use native.Mathlib.Omega.{arith}
use lib.IntN.{pos}
use lib.ListN.{length, get_or}
use mir.Syntax.{w32}
use mir.Val.{SFits}
use mir.Facts.{to_z-of_z}
use Rattle.std.proofs.Common.{rules}
use Rattle.ground.proofs.Put.{put_then, put_one, partly_none, partly_more, partly_all}
use Rattle.cnf.proofs.put_clause.Goals as goal

pub loop-i-init : goal.loop-i-init
loop-i-init c = partly_none _ _ _

pub loop-i-preserved : goal.loop-i-preserved
loop-i-preserved c =
    let fits : SFits w32 (get_or c.args.literals.now c.loop-i.i (pos 0)) = search rules in
    partly_more (pos 0) c.loop-i.invariant c.loop-i-test.true (to_z-of_z fits)

pub returns : goal.returns
returns c =
    let all : length c.args.literals.now ≡ c.loop-i.i = omega (arith, c.loop-i-test.false, c.loop-i.auto.i-end) in
    rw all (put_then (partly_all c.loop-i.invariant (omega arith)) (put_one _ _ _))
