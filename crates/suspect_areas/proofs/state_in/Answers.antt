-- `suspect_areas::state_in` meets its contract: the marks are copied, the numbers read.
-- Assumes nothing.
use mathlib.Core.Path.{◌∙◌}
use Prim.Native.Nat.{◌-◌}
use native.Mathlib.Omega.{arith}
use lib.ListN.{length, drop, length-drop}
use lib.Seq.{take_all}
use Rattle.suspect_areas.proofs.Read.{read_state}
use Rattle.suspect_areas.proofs.state_in.Goals as goal

pub returns : goal.returns
returns c =
    let area = c.args.area.now in
    read_state area (c.copy_from_slice.ensures.after ∙ take_all (length area - 32) (drop 32 area) (rw length-drop (omega arith)))
    c.pair_at.ensures c.pair_at-2.ensures c.pair_at-3.ensures
