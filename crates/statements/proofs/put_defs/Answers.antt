-- `statements::put_defs` meets its contract: the lines are taken one after the other, and what defines a name stays.
-- Assumes nothing.
use Rattle.statements.proofs.Defining.{start, next, finished}
use Rattle.forms.specs.Lines.{word_in}
use Rattle.ground.specs.Choose.{one}
use mathlib.Core.Path.{ap, ◌∙◌}
use native.Mathlib.Omega.{arith}
use Rattle.statements.proofs.put_defs.Goals as goal

pub loop-k-init : goal.loop-k-init
loop-k-init c = start c.requires

pub loop-k-preserved : goal.loop-k-preserved
loop-k-preserved c =
    let l = c.loop-k in
    next l.invariant (omega arith)
    (c.narrow.ensures ∙ c.word_in.ensures.0 ∙ ap (word_in _ _ l.k) c.def_word.ensures.0)
    (c.narrow-in-loop-k.ensures ∙ c.number.ensures.0)
    c.from-g.ensures
    c.from-n.ensures
    (c.from-d.ensures ∙ ap one c.is_def.ensures)

pub returns : goal.returns
returns c = finished c.loop-k.invariant (omega arith)
