-- `texts::read_uses_in` meets its contract: the kinds and the names that are used join the names that are defined.
-- Assumes nothing.
use Rattle.texts.proofs.Steps.{kinds_room, outs_room, gates_room, gates_few, some_gates, ready, read_used}
use lib.Seq.{length-take-le}
use mathlib.Core.Path.{sym, ◌∙◌}
use native.Mathlib.Omega.{arith}
use Rattle.texts.proofs.read_uses_in.Goals as goal

pub put_kinds-requires : goal.put_kinds-requires
put_kinds-requires c =
    kinds_room c.requires.read_uses_ready.defined.told c.requires.kinds_len.0

pub put_sources-requires : goal.put_sources-requires
put_sources-requires c =
    gates_room c.requires.read_uses_ready.defined.told c.requires.kinds_len.1 c.requires.kinds_len.2

pub put_outs-u-requires : goal.put_outs-u-requires
put_outs-u-requires c =
    outs_room c.requires.read_uses_ready.defined.told c.requires.kinds_len.3

pub overflow_sub-inputs : goal.overflow_sub-inputs
overflow_sub-inputs c =
    some_gates c.requires.read_uses_ready.defined c.requires.read_uses_ready.gates_are

pub slice_bounds-read_names-end : goal.slice_bounds-read_names-end
slice_bounds-read_names-end c =
    omega (arith, gates_few c.requires.read_uses_ready.defined.told c.requires.read_uses_ready.gates_are, c.requires.kinds_len.0)

pub slice_bounds-read_names-end-2 : goal.slice_bounds-read_names-end-2
slice_bounds-read_names-end-2 c =
    sym (length-take-le _ _ (omega (arith, gates_few c.requires.read_uses_ready.defined.told c.requires.read_uses_ready.gates_are, c.requires.kinds_len.0)))

pub slice_bounds-read_names-end-3 : goal.slice_bounds-read_names-end-3
slice_bounds-read_names-end-3 c =
    omega (arith, gates_few c.requires.read_uses_ready.defined.told c.requires.read_uses_ready.gates_are, c.requires.kinds_len.1)

pub slice_bounds-read_names-end-4 : goal.slice_bounds-read_names-end-4
slice_bounds-read_names-end-4 c =
    sym (length-take-le _ _ (omega (arith, gates_few c.requires.read_uses_ready.defined.told c.requires.read_uses_ready.gates_are, c.requires.kinds_len.1)))

pub slice_bounds-read_names-end-5 : goal.slice_bounds-read_names-end-5
slice_bounds-read_names-end-5 c =
    omega (arith, gates_few c.requires.read_uses_ready.defined.told c.requires.read_uses_ready.gates_are, c.requires.kinds_len.2)

pub slice_bounds-read_names-end-6 : goal.slice_bounds-read_names-end-6
slice_bounds-read_names-end-6 c =
    sym (length-take-le _ _ (omega (arith, gates_few c.requires.read_uses_ready.defined.told c.requires.read_uses_ready.gates_are, c.requires.kinds_len.2)))

pub slice_bounds-read_names-end-8 : goal.slice_bounds-read_names-end-8
slice_bounds-read_names-end-8 c =
    sym (length-take-le _ _ (omega (arith, c.put_outs-u.ensures.few, c.requires.kinds_len.3)))

pub read_names-requires : goal.read_names-requires
read_names-requires c =
    record { read_names_ready = ready c.requires.read_uses_ready.defined c.requires.read_uses_ready.gates_are _ c.put_kinds.ensures c.put_sources.ensures c.put_outs-u.ensures; order_len = c.requires.read_uses_ready.for_order ∙ sym (length-take-le _ _ (omega (arith, gates_few c.requires.read_uses_ready.defined.told c.requires.read_uses_ready.gates_are, c.requires.kinds_len.1))) }

pub returns : goal.returns
returns c =
    read_used c.requires.read_uses_ready.defined c.requires.read_uses_ready.gates_are _ c.put_kinds.ensures c.put_sources.ensures c.put_outs-u.ensures
    c.read_names.ensures
