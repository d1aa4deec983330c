-- `cut_search::run_heads` meets its contract: as many of 64 X's as there are head lines are the start.
-- Assumes nothing.
use mathlib.Core.Path.{◌≡◌, sym, ap, ◌∙◌}
use lib.ListN.{length, take}
use Rattle.ground.proofs.Filled.{front_length}
use Rattle.nodes.specs.Node.{start}
use Rattle.nodes.proofs.Node.{start_part}
use Rattle.heads.specs.Heads.{heads_of}
use Rattle.cut_search.proofs.Running.{heads_are, few, cut_run_ready, done_of}
use Rattle.cut_search.proofs.run_heads.Goals as goal

pub slice_bounds-node-end : goal.slice_bounds-node-end
slice_bounds-node-end c = few c.requires c.count_heads-heads.ensures

pub slice_bounds-run_cut-end : goal.slice_bounds-run_cut-end
slice_bounds-run_cut-end c =
    sym (front_length 64 2 c.count_heads-heads.result (few c.requires c.count_heads-heads.ensures))

pub run_cut-requires : goal.run_cut-requires
run_cut-requires c =
    let starts : take c.count_heads-heads.result (start 64) ≡ start (heads_of c.args.circuit.now (length c.args.want.now)) = let h = c.count_heads-heads.result in
    let says = c.count_heads-heads.ensures in
    start_part h 64 (few c.requires says) ∙ ap start (heads_are c.requires says) in
    cut_run_ready c.requires starts

pub returns : goal.returns
returns c =
    let starts : take c.count_heads-heads.result (start 64) ≡ start (heads_of c.args.circuit.now (length c.args.want.now)) = let h = c.count_heads-heads.result in
    let says = c.count_heads-heads.ensures in
    start_part h 64 (few c.requires says) ∙ ap start (heads_are c.requires says) in
    done_of starts c.run_cut.ensures
