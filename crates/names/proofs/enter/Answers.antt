-- `names::enter` meets its contract: each definition is looked for, and then joins the table.
-- Assumes nothing.
use mathlib.Core.Path.{ap, ◌∙◌}
use Prim.Native.Nat.{ℕ}
use native.Mathlib.Omega.{arith}
use Rattle.words.specs.Words.{word_at}
use Rattle.names.specs.Owed.{hash_from}
use Rattle.names.proofs.Loops.{enter_none, enter_more, enter_all}
use Rattle.names.proofs.enter.Goals as goal
use Rattle.names.proofs.enter.Goals.{then-is_some, else-is_some}
use Rattle.answers.proofs.Rules.{same_place}

pub loop-n-init : goal.loop-n-init
loop-n-init c = enter_none c.requires

pub find-found-requires : goal.find-found-requires
find-found-requires c = (c.loop-n.invariant.table, c.hash-h.ensures)

pub add-requires : goal.add-requires
add-requires c =
    let text = c.args.text.now in
    let hashed = c.hash-h.ensures in
    let same_place = ap (λ (i : ℕ). hash_from 0 (word_at text i)) c.from-at.ensures in
    (c.loop-n.invariant.table, omega arith, (hashed.0 ∙ same_place, hashed.1))

pub loop-n-preserved : goal.loop-n-preserved
loop-n-preserved c =
    elim c.if-is_some.branch [
      | then-is_some w ↦ enter_more c.loop-n.invariant c.add.ensures c.from-at.ensures c.find-found.ensures c.is_some.ensures w.if-is_some.true (w.low-is ∙ w.min-low.ensures)
      | else-is_some w ↦ enter_more c.loop-n.invariant c.add.ensures c.from-at.ensures c.find-found.ensures c.is_some.ensures w.if-is_some.false w.low-is
    ]

pub returns : goal.returns
returns c = enter_all c.loop-n.invariant (omega arith)
