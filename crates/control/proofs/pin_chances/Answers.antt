-- `control::pin_chances` meets its contract.
-- Assumes nothing.
use native.Mathlib.Omega.{arith}
use Rattle.control.proofs.Pins.{here, inside, inside_zeros, inside_reads, taken_is, seen_so}
use Rattle.control.proofs.pin_chances.Goals as goal

pub source-j-requires : goal.source-j-requires
source-j-requires c = let p = c.requires in (here p.0, p.2)

pub bounds-reads-j : goal.bounds-reads-j
bounds-reads-j c = let p = c.requires in inside_reads p.0 p.1 p.2 c.source-j.ensures

pub offset_bounds-ones-j : goal.offset_bounds-ones-j
offset_bounds-ones-j c = let p = c.requires in omega (arith, inside p.0 p.1 p.2 c.source-j.ensures)

pub bounds-ones-j : goal.bounds-ones-j
bounds-ones-j c = let p = c.requires in inside p.0 p.1 p.2 c.source-j.ensures

pub offset_bounds-zeros-j : goal.offset_bounds-zeros-j
offset_bounds-zeros-j c = let p = c.requires in omega (arith, inside_zeros p.0 p.1 p.2 c.source-j.ensures)

pub bounds-zeros-j : goal.bounds-zeros-j
bounds-zeros-j c = let p = c.requires in inside_zeros p.0 p.1 p.2 c.source-j.ensures

pub returns : goal.returns
returns c =
    let p = c.requires in
    let is = c.source-j.ensures in
    seen_so p.0 p.1 p.2 is (taken_is p.0 p.1 p.2 is c.share-taken.ensures) c.times.ensures c.times-2.ensures
