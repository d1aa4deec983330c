-- `control::fill_with` meets its contract: the front of so many zeros is room for the readings.
-- Assumes nothing.
use mathlib.Core.Path.{sym}
use native.Mathlib.Omega.{arith}
use Rattle.ground.proofs.Filled.{front_length}
use Rattle.control.proofs.Answer.{fill-ready}
use Rattle.control.proofs.fill_with.Goals as goal

pub whole_as_front-fill_chances : goal.whole_as_front-fill_chances
whole_as_front-fill_chances g c = let p = c.requires in (p.0, omega (arith, p.1))

pub slice_bounds-fill_chances-end : goal.slice_bounds-fill_chances-end
slice_bounds-fill_chances-end g c = sym (front_length g.row.SIZE 0 c.args.n c.requires.0)

pub fill_chances-requires : goal.fill_chances-requires
fill_chances-requires g c = let p = c.requires in fill-ready p.2 g.row.SIZE p.0

pub returns : goal.returns
returns g c = c.fill_chances.ensures
