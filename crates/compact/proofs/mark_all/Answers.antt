-- `compact::mark_all` meets its contract: what each step leaves is what the next asks.
-- Assumes nothing.
use mathlib.Core.Path.{sym, ap, ◌∙◌}
use Prim.Native.Nat.{ℕ}
use lib.ListN.{replicate}
use Rattle.ground.proofs.Filled.{filled-length}
use Rattle.tallies.proofs.Tallies.{started, room_after}
use Rattle.compact.proofs.mark_all.Goals as goal

pub tally-requires : goal.tally-requires
tally-requires c =
    let start = started c.requires.cleared c.requires.sized in
    record { tally_room = start.0; zeros = start.1; marks_len = c.fill.ensures.len ∙ c.requires.marks_len }

pub slice_bounds-drop_spare-end : goal.slice_bounds-drop_spare-end
slice_bounds-drop_spare-end c = sym (c.tally.auto.seen ∙ filled-length 256 0)

pub drop_spare-requires : goal.drop_spare-requires
drop_spare-requires c =
    let n = c.tally in
    record {
      tally_room = room_after _ _ (started c.requires.cleared c.requires.sized).0 n.auto.counts n.auto.seen;
      marks_value = c.fill.ensures.after (λ y e. e) ∙ ap (λ (n : ℕ). replicate n 1) c.requires.marks_len;
      tallied = n.ensures;
    }
