-- `suspect_areas::holds_state` meets its contract: the state that stands there is opened, and its front is the area's.
-- Assumes nothing.
use mathlib.Core.Path.{sym, ap, ◌∙◌}
use native.Mathlib.Omega.{arith}
use lib.ListN.{length}
use borrow.Author.Rules.{rules}
use Rattle.answers.proofs.Area.{area_length}
use Rattle.suspects.proofs.State.{opened_same}
use Rattle.suspect_areas.specs.Bytes.{numbers_of}
use Rattle.suspect_areas.proofs.Held.{not_opened, by_front}
use Rattle.suspect_areas.proofs.holds_state.Goals as goal

pub returns-then-not-is_opened : goal.returns-then-not-is_opened
returns-then-not-is_opened c =
    not_opened c.args.area.now c.requires c.state_in-state.ensures (sym c.is_opened.ensures ∙ c.if-not-is_opened.true)

pub put_front-requires : goal.put_front-requires
put_front-requires c =
    ((opened_same _).holds (sym c.is_opened.ensures ∙ c.if-not-is_opened.false), search rules)

pub begins-requires : goal.begins-requires
begins-requires c =
    omega (arith, ap length c.put_front.ensures, area_length (numbers_of c.state_in-state.result), c.requires)

pub returns : goal.returns
returns c =
    by_front c.args.area.now c.requires c.state_in-state.ensures (sym c.is_opened.ensures ∙ c.if-not-is_opened.false)
    c.put_front.ensures c.begins.ensures
