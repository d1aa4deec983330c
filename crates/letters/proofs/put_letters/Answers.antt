-- `letters::put_letters` meets its contract. The invariant: the first i letters stand.
-- Assumes nothing.
use lib.ListN.{length, length-set, length-map}
use native.Mathlib.Omega.{arith}
use mathlib.Core.Path.{◌≡◌, refl}
use Rattle.letters.proofs.Pieces.{letter_at}
use Rattle.letters.specs.Text.{letter_of}
use Rattle.ground.proofs.Put.{partly_none, partly_more, partly_all}
use Rattle.letters.proofs.put_letters.Goals as goal

pub loop-i-init : goal.loop-i-init
loop-i-init c = (refl, partly_none _ _ _)

pub loop-i-preserved : goal.loop-i-preserved
loop-i-preserved c =
    let row = c.args.row.now in
    let letter-is = letter_at row c.loop-i.i c.letter.ensures in
    (simp length-set (omega arith), partly_more (letter_of 0) c.loop-i.invariant.1 (rw length-map (omega arith)) letter-is)

pub returns : goal.returns
returns c =
    let all : length c.args.row.now ≡ c.loop-i.i = omega (arith, c.loop-i-test.false, c.loop-i.auto.i-end) in
    rw all (partly_all c.loop-i.invariant.1 (rw length-map (omega arith)))
