-- `counts::count_pattern` meets its contract. The invariant: the first g rows of pairs are counted.
-- Assumes nothing.
use mathlib.Core.Path.{◌≡◌, refl, ◌∙◌}
use native.Mathlib.Omega.{arith}
use borrow.Author.Rules.{rules}
use Rattle.counts.proofs.Moves.{moved_none, pairs_next, faults_next}
use Rattle.counts.proofs.count_pattern.Goals as goal

pub loop-g-init : goal.loop-g-init
loop-g-init c = (refl, moved_none _ (λ k. search rules) (λ k. refl))

pub loop-g-preserved : goal.loop-g-preserved
loop-g-preserved c =
    let l = c.loop-g in
    (c.count_pairs.auto.counts ∙ l.invariant.0, pairs_next _ _ _ l.invariant.1 (search rules) c.count_pairs.ensures)

pub returns : goal.returns
returns c =
    let l = c.loop-g in
    let q : l.g ≡ c.args.faults = omega arith in
    faults_next _ _ _ (rw q at l.invariant.1) c.requires.few c.count_row.ensures
