-- `compact::drop_spare` meets its contract. The invariant: the turns of the first patterns are left, and the counts are those of the set.
-- Assumes nothing.
use mathlib.Core.Path.{refl, ap, ◌∙◌}
use borrow.Author.Rules.{rules}
use lib.ListN.{length, length-replicate}
use Rattle.tallies.proofs.Tallies.{room_after}
use Rattle.compact.proofs.Turns.{all_to_go, ready-next, one_gone, none_to_go}
use Rattle.compact.proofs.drop_spare.Goals as goal

pub loop-p-init : goal.loop-p-init
loop-p-init c = all_to_go c.requires.marks_value c.requires.tallied

pub turn-requires : goal.turn-requires
turn-requires c =
    let l = c.loop-p in
    record {
      tally_room = room_after _ _ c.requires.tally_room l.invariant.cells refl;
      turn_room = record { marks = l.invariant.marks ∙ ap length c.requires.marks_value ∙ length-replicate _ 1; below = search rules };
      turn_ready = ready-next l.invariant (search rules);
    }

pub loop-p-preserved : goal.loop-p-preserved
loop-p-preserved c =
    let w = c.turn in
    one_gone c.loop-p.invariant (search rules) w.auto.counts w.auto.marks w.ensures

pub returns : goal.returns
returns c = none_to_go c.loop-p.invariant (search rules)
