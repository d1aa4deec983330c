-- `walks::walk_all` meets its contract: the first bytes of 64 X's are the start, and reaches become outcomes.
-- Assumes nothing.
use mathlib.Core.Path.{refl, sym, ap, ◌∙◌}
use native.Mathlib.Omega.{arith}
use lib.ListN.{length, length-replicate}
use Rattle.nodes.proofs.Node.{start_part}
use Rattle.meetings.proofs.Coming.{SameSize, ready_still}
use Rattle.walks.proofs.Sides.{ready_of, walk_of}
use Rattle.walks.proofs.Start.{start-ready, list_done}
use Rattle.walks.proofs.walk_all.Goals as goal

pub slice_bounds-walk-end : goal.slice_bounds-walk-end
slice_bounds-walk-end c =
    let inputs = c.args.inputs in
    sym (ap length (start_part inputs 64 (omega arith)) ∙ length-replicate inputs 2)

pub walk-requires : goal.walk-requires
walk-requires c =
    let sizes : SameSize (c.args.outcomes.now, c.args.counts.now, c.args.tests.now) (c.reach_all.new.reaches, c.reach_all.new.counts, c.args.tests.now) = record { reaches = c.reach_all.auto.reaches; counts = c.reach_all.auto.counts; tests = refl } in
    ready_of (sym (start_part c.args.inputs 64 (omega arith))) (start-ready (ready_still sizes refl c.requires))

pub returns : goal.returns
returns c =
    list_done c.args.inputs c.end_all.new.reaches (walk_of (start_part c.args.inputs 64 (omega arith)) c.walk.ensures)
    (rw c.reach_all.auto.reaches c.reach_all.ensures) c.walk.auto.reaches c.end_all.ensures c.end_all.auto.reaches
