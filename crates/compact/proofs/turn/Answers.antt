-- `compact::turn` meets its contract: by the counts, which decide as the definition does.
-- Assumes nothing.
use native.Mathlib.Omega.{arith}
use Rattle.tables.proofs.Rows.{row_inside}
use Rattle.tallies.proofs.Tallies.{row_cells, row_notes}
use Rattle.compact.proofs.Turns.{stays, goes}
use borrow.Author.Rules.{rules}
use Rattle.compact.proofs.turn.Goals as goal

pub overflow_mul-from : goal.overflow_mul-from
overflow_mul-from c =
    omega (arith, row_inside c.args.p c.args.patterns c.args.faults (search rules))

pub needed-requires : goal.needed-requires
needed-requires c =
    record { cells_room = row_cells c.requires.tally_room _ c.requires.turn_room.below; notes = row_notes c.requires.tally_room c.requires.turn_ready.seen }

pub returns-then-needed : goal.returns-then-needed
returns-then-needed c =
    stays c.requires.tally_room.few_faults c.requires.tally_room.few_patterns c.requires.turn_room.below c.requires.turn_ready c.needed.ensures c.if-needed.true

pub count_pattern-requires : goal.count_pattern-requires
count_pattern-requires c = row_cells c.requires.tally_room _ c.requires.turn_room.below

pub returns : goal.returns
returns c =
    goes c.requires.tally_room.few_faults c.requires.tally_room.few_patterns c.requires.turn_room.below c.requires.turn_ready c.needed.ensures c.if-needed.false c.count_pattern.ensures
    (λ k. omega (arith, c.type_inv.counts k))
