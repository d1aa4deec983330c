-- `places::put_places_in` meets its contract. The invariant: the places of the lines below k are written.
-- Assumes nothing.
use mathlib.Core.Path.{◌≡◌, ap}
use Prim.Native.Nat.{ℕ, ◌<◌}
use lib.ListN.{length, get_or}
use native.Mathlib.Omega.{arith}
use Rattle.ground.proofs.Put.{partly_long}
use Rattle.places.specs.Owed.{definition_by}
use Rattle.places.proofs.Places.{number_below, def_below, def_is, places_more, places_all, number_room}
use Rattle.places.proofs.put_places_in.Goals as goal
use Rattle.places.proofs.put_places_in.Goals.{After-from-d}

pub number_lines-requires : goal.number_lines-requires
number_lines-requires c = number_room c.requires

pub overflow_sub-inputs : goal.overflow_sub-inputs
overflow_sub-inputs c = c.requires.fits.gates

pub number_on-x-requires : goal.number_on-x-requires
number_on-x-requires c = let p = c.requires.fits in (omega (arith, p.few, p.gates), omega (arith, p.gates))

pub offset_bounds-def-x : goal.offset_bounds-def-x
offset_bounds-def-x c =
    let p = c.requires.fits in
    let b = number_below p c.loop-k.k c.loop-k-test.true in
    omega (arith, b, c.number_on-x.ensures, p.few)

pub bounds-def-x : goal.bounds-def-x
bounds-def-x c =
    let p = c.requires in
    let b = number_below p.fits c.loop-k.k c.loop-k-test.true in
    omega (arith, b, c.number_on-x.ensures, p.for_defs, c.number_lines.auto.line)

-- the definition that was found there
found : (c : After-from-d) → c.from-d.result ≡ definition_by c.args.defs.now c.args.numbers.now c.args.order.now c.loop-k.k
found c =
    def_is c.requires.fits c.number_lines.new.line c.number_lines.ensures c.loop-k.k c.loop-k-test.true c.number_on-x.ensures c.from-d.ensures

found_below : (c : After-from-d) → c.from-d.result < length c.args.defs.now
found_below c = omega (arith, found c, def_below c.requires.fits c.loop-k.k c.loop-k-test.true)

pub offset_bounds-defs-d : goal.offset_bounds-defs-d
offset_bounds-defs-d c =
    let w = (goal.at.offset_bounds-defs-d c).After-from-d in
    omega (arith, found_below w, c.requires.fits.few)

pub bounds-defs-d : goal.bounds-defs-d
bounds-defs-d c = found_below (goal.at.bounds-defs-d c).After-from-d

pub bounds-places-k : goal.bounds-places-k
bounds-places-k c =
    let p = c.requires.fits in
    omega (arith, partly_long c.loop-k.invariant, p.room)

pub loop-k-preserved : goal.loop-k-preserved
loop-k-preserved c =
    let defs = c.args.defs.now in
    places_more c.requires.fits c.loop-k.invariant c.loop-k-test.true (ap (λ (d : ℕ). get_or defs d 0) (found (goal.at.loop-k-preserved c).After-from-d))

pub returns : goal.returns
returns c = places_all c.requires.fits c.loop-k.invariant c.loop-k-test.false
