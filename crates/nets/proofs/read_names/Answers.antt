-- `nets::read_names` meets its contract: room for a number of each name is lent.
-- Assumes nothing.
use Rattle.ground.proofs.Filled.{front_length}
use mathlib.Core.Path.{sym, ◌∙◌}
use Rattle.nets.proofs.read_names.Goals as goal

pub slice_bounds-a-end : goal.slice_bounds-a-end
slice_bounds-a-end c = c.requires.read_names_ready.few_gates

pub slice_bounds-read_names_in-end : goal.slice_bounds-read_names_in-end
slice_bounds-read_names_in-end c = sym (front_length 8192 0 _ c.requires.read_names_ready.few_gates)

pub slice_bounds-b-end : goal.slice_bounds-b-end
slice_bounds-b-end c = c.requires.read_names_ready.few_gates

pub slice_bounds-read_names_in-end-2 : goal.slice_bounds-read_names_in-end-2
slice_bounds-read_names_in-end-2 c = sym (front_length 8192 0 _ c.requires.read_names_ready.few_gates)

pub slice_bounds-o-end : goal.slice_bounds-o-end
slice_bounds-o-end c = c.requires.read_names_ready.few_outs

pub slice_bounds-read_names_in-end-3 : goal.slice_bounds-read_names_in-end-3
slice_bounds-read_names_in-end-3 c = sym (front_length 8192 0 _ c.requires.read_names_ready.few_outs)

pub read_names_in-requires : goal.read_names_in-requires
read_names_in-requires c =
    let p = c.requires.read_names_ready in
    let gates = front_length 8192 0 _ p.few_gates in
    record { read_names_ready = p; a_len = (gates, gates ∙ sym p.seconds, front_length 8192 0 _ p.few_outs, c.requires.order_len) }
