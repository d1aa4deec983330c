-- `tallies::tally` meets its contract. The invariant: the patterns below p that have the mark are tallied.
-- Assumes nothing.
use native.Mathlib.Omega.{arith}
use borrow.Author.Rules.{rules}
use Rattle.tables.proofs.Rows.{row_inside}
use Rattle.tallies.proofs.Tallies.{row_cells, row_faults, room_after, none_tallied, one_tallied, all_tallied}
use Rattle.tallies.proofs.tally.Goals as goal

pub loop-p-init : goal.loop-p-init
loop-p-init c = none_tallied c.requires.zeros

pub overflow_mul-from : goal.overflow_mul-from
overflow_mul-from c =
    omega (arith, row_inside c.loop-p.p c.args.patterns c.args.faults (search rules))

pub tally_pattern-requires : goal.tally_pattern-requires
tally_pattern-requires c =
    let l = c.loop-p in
    let room = room_after l.counts l.seen c.requires.tally_room l.invariant.cells l.invariant.faults in
    record { cells_room = row_cells room _ (search rules); row_room = row_faults room _ (search rules) }

pub loop-p-preserved : goal.loop-p-preserved
loop-p-preserved c =
    let w = c.tally_pattern in
    one_tallied c.loop-p.invariant (search rules) w.auto.counts w.auto.seen w.ensures

pub returns : goal.returns
returns c = all_tallied c.loop-p.invariant (search rules)
