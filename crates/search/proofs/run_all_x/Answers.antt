-- `search::run_all_x` meets its contract: the first bytes of 64 X's are the start.
-- Assumes nothing.
use mathlib.Core.Path.{sym, ap, ◌∙◌}
use native.Mathlib.Omega.{arith}
use lib.ListN.{length, length-replicate}
use Rattle.nodes.proofs.Node.{start_part}
use Rattle.search.proofs.Runs.{runs_of, ran_of}
use Rattle.search.proofs.run_all_x.Goals as goal

pub slice_bounds-run-end : goal.slice_bounds-run-end
slice_bounds-run-end c =
    let inputs = c.args.inputs in
    sym (ap length (start_part inputs 64 (omega arith)) ∙ length-replicate inputs 2)

pub run-requires : goal.run-requires
run-requires c =
    runs_of (sym (start_part c.args.inputs 64 (omega arith))) c.requires.1

pub returns : goal.returns
returns c =
    let inputs = c.args.inputs in
    ran_of (start_part inputs 64 (omega arith)) c.run.ensures
