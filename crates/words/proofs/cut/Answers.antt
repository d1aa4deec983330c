-- `words::cut` meets its contract: each byte may begin a word or end a line.
-- Assumes nothing.
use Rattle.words.proofs.Loop.{start, more, finished}
use Rattle.ground.specs.Choose.{one}
use lib.Dec.{eqb}
use mathlib.Core.Bool.{Bool, ◌&&◌}
use mathlib.Core.Path.{ap, ◌∙◌}
use native.Mathlib.Omega.{arith}
use Rattle.words.proofs.cut.Goals as goal

pub loop-i-init : goal.loop-i-init
loop-i-init c = start c.requires

pub in_word-x-requires : goal.in_word-x-requires
in_word-x-requires c = c.word_table-table.ensures

pub lead-m-requires : goal.lead-m-requires
lead-m-requires c = c.in_word-x.ensures

pub loop-i-preserved : goal.loop-i-preserved
loop-i-preserved c =
    let turn = c.loop-i in
    let starts = c.begun.ensures ∙ ap (λ (x : Bool). eqb turn.m 0 && x) c.in_word-x.ensures in
    let counted = c.from-w.ensures ∙ ap one starts in
    rw c.narrow.ensures
    (more turn.invariant (omega arith) c.from-w.result c.lead-m.result c.end_line-k.ensures counted c.lead-m.ensures)

pub returns : goal.returns
returns c = rw c.narrow-2.ensures (finished c.loop-i.invariant (omega arith))
