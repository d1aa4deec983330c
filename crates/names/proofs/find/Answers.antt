-- `names::find` meets its contract: the definitions with the same hash are followed, the last first.
-- Assumes nothing.
use mathlib.Core.Path.{sym, ap, ◌∙◌}
use Prim.Native.Nat.{ℕ}
use native.Mathlib.Omega.{arith}
use Rattle.words.specs.Words.{word_at, same}
use Rattle.names.proofs.Chain.{start, ended, inside, hit, more, falls}
use Rattle.names.proofs.find.Goals as goal
use Rattle.answers.proofs.Rules.{same_place}

pub walk-init : goal.walk-init
walk-init c = start c.requires.0 c.requires.1.0 c.requires.1.1 c.from-link.ensures

pub offset_bounds-defs-d : goal.offset_bounds-defs-d
offset_bounds-defs-d c = omega (arith, inside c.walk.invariant (omega arith))

pub bounds-defs-d : goal.bounds-defs-d
bounds-defs-d c = omega (arith, inside c.walk.invariant (omega arith))

pub returns-then-same_word : goal.returns-then-same_word
returns-then-same_word c =
    let first = c.args in
    let text = first.text.now in
    let same_place = ap (λ (i : ℕ). same (word_at text i) (word_at text first.at)) c.from.ensures in
    hit c.walk.invariant (omega arith) (sym same_place ∙ sym c.same_word.ensures ∙ c.if-same_word.true)

pub offset_bounds-next-d : goal.offset_bounds-next-d
offset_bounds-next-d c = omega (arith, inside c.walk.invariant (omega arith))

pub bounds-next-d : goal.bounds-next-d
bounds-next-d c = omega (arith, inside c.walk.invariant (omega arith))

pub walk-smaller : goal.walk-smaller
walk-smaller c =
    rw c.from-link-in-walk.ensures (falls c.walk.invariant (omega arith) c.requires.0)

pub walk-preserved : goal.walk-preserved
walk-preserved c =
    let text = c.args.text.now in
    let same_place = ap (λ (i : ℕ). same (word_at text i) (word_at text c.args.at)) c.from.ensures in
    let other = sym same_place ∙ sym c.same_word.ensures ∙ c.if-same_word.false in
    more c.walk.invariant (omega arith) c.requires.0 c.from-link-in-walk.result other c.from-link-in-walk.ensures

pub returns : goal.returns
returns c = ended c.walk.invariant (omega arith)
