-- `suspect_areas::put_state` meets its contract: the front first, then the marks behind it.
-- Assumes nothing.
use mathlib.Core.Path.{◌≡◌, sym, ap, ◌∙◌}
use native.Mathlib.Omega.{arith}
use lib.ListN.{length, drop, length-drop}
use lib.Seq.{length-take-le}
use borrow.Author.Rules.{rules}
use Rattle.ground.proofs.Put.{copied}
use Rattle.answers.proofs.Area.{area_length}
use Rattle.suspect_areas.proofs.Bytes.{part_length, laid_state}
use Rattle.suspect_areas.proofs.put_state.Goals as goal

-- the front has 32 bytes
pub slice_bounds-put_front-end-2 : goal.slice_bounds-put_front-end-2
slice_bounds-put_front-end-2 c = sym (length-take-le 32 c.args.area.now (omega (arith, c.requires.1)))

pub put_front-requires : goal.put_front-requires
put_front-requires c = (c.requires.0, length-take-le 32 c.args.area.now (omega (arith, c.requires.1)))

pub returns : goal.returns
returns c =
    let rest = drop 32 c.args.area.now in
    let front_long : length c.put_front.new.front ≡ 32 = ap length c.put_front.ensures ∙ area_length _ in
    let rest-long : length rest ≡ 256 = rw length-drop (omega (arith, c.requires.1)) in
    let marks_long : length c.args.state.marks ≡ 256 = search rules in
    laid_state c.args.state _ rest c.put_front.ensures rest-long marks_long
    (c.copy_from_slice.ensures.after
    ∙ sym (copied c.args.state.marks _ (marks_long ∙ sym (part_length c.put_front.new.front rest front_long rest-long))))
