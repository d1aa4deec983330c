-- `statements::put_outs` meets its contract: the lines are taken one after the other, and an output's name stays.
-- Assumes nothing.
use Rattle.statements.proofs.Filling.{begun, more, all_are}
use Rattle.statements.specs.Tables.{outs_of}
use mathlib.Core.Path.{◌∙◌}
use native.Mathlib.Omega.{arith}
use Rattle.statements.proofs.put_outs.Goals as goal

pub loop-k-init : goal.loop-k-init
loop-k-init c = begun _ c.requires.for_outs

pub loop-k-preserved : goal.loop-k-preserved
loop-k-preserved c =
    more c.loop-k.invariant (omega arith)
    (λ e. c.narrow.ensures ∙ c.word_in.ensures.0)
    c.from-d.ensures

pub returns : goal.returns
unfolding outs_of
returns c = record { few = c.loop-k.invariant.in_room; are = all_are c.loop-k.invariant (omega arith) }
