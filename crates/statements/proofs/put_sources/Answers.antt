-- `statements::put_sources` meets its contract: the lines are taken one after the other, and a gate's sources stay.
-- Assumes nothing.
use Rattle.statements.proofs.Filling.{begun, more, so_many_are}
use Rattle.statements.specs.Tables.{firsts_of, seconds_of}
use Rattle.forms.specs.Lines.{word_in}
use mathlib.Core.Path.{ap, ◌∙◌}
use native.Mathlib.Omega.{arith}
use Rattle.statements.proofs.put_sources.Goals as goal

pub loop-k-init : goal.loop-k-init
loop-k-init c = (begun _ c.requires.for_first, begun _ c.requires.for_second)

pub loop-k-preserved : goal.loop-k-preserved
loop-k-preserved c = (
  more c.loop-k.invariant.0 (omega arith)
      (λ e. c.narrow.ensures ∙ c.word_in.ensures.0)
      c.from-g.ensures,
  more c.loop-k.invariant.1 (omega arith)
      (λ e. c.narrow-in-loop-k.ensures ∙ c.word_in-in-loop-k.ensures.0
      ∙ ap (word_in _ _ c.loop-k.k) c.last_word.ensures.0)
      c.from-g.ensures,
)

pub returns : goal.returns
unfolding firsts_of seconds_of
returns c =
    record { firsts_are = so_many_are c.loop-k.invariant.0 (omega arith); seconds_are = so_many_are c.loop-k.invariant.1 (omega arith) }
