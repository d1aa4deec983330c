-- `cut_search::run_cut` meets its contract: a copy of the circuit, which is then cut.
-- Assumes nothing.
use mathlib.Core.Path.{refl, sym, ◌∙◌}
use Rattle.ground.proofs.Put.{copied}
use Rattle.cut_search.proofs.Running.{size, lines_ready, search_ready}
use Rattle.cut_search.proofs.run_cut.Goals as goal

pub cut_lines-requires : goal.cut_lines-requires
cut_lines-requires c =
    let long = size c.requires ∙ sym c.requires.lines_size in
    lines_ready c.requires c.args.lines.now refl
    (c.copy_from_slice.ensures.after ∙ sym (copied c.args.circuit.now c.args.lines.now long))

pub search_cut-requires : goal.search_cut-requires
search_cut-requires c =
    search_ready c.requires c.cut_lines.ensures

pub returns : goal.returns
returns c = c.search_cut.ensures
