-- `entry::compare` meets its contract: one answer for each branch.
-- Assumes nothing.
use mathlib.Core.Path.{◌∙◌}
use native.Mathlib.Omega.{arith}
use borrow.Author.Tests.{eq-eqb, ne_eqb, lt-ltb, le-ltb}
use Rattle.entry.specs.Entry.{differ, agree}
use Rattle.entry.specs.Owed.{status_by}
use Rattle.entry.proofs.Masks.{masked, compared}
use Rattle.entry.proofs.compare.Goals as goal

pub returns-then-a-ge2 : goal.returns-then-a-ge2
unfolding status_by differ
returns-then-a-ge2 c =
    let x = c.if-a-ge2.true in
    c.nothing_expected.ensures ∙ simp (le-ltb _ _ x, masked c.args.masks c.args.a c.args.b x)

pub returns-then-a-b : goal.returns-then-a-b
unfolding status_by differ agree
returns-then-a-b c =
    let known = c.if-a-ge2.false in
    let same = c.if-a-b.true in
    simp (compared c.args.masks c.args.a c.args.b known, lt-ltb _ _ known, lt-ltb c.args.b 2 (omega (arith, known, same)), eq-eqb _ _ same)

pub returns-then-b-ge2 : goal.returns-then-b-ge2
unfolding status_by differ agree
returns-then-b-ge2 c =
    let known = c.if-a-ge2.false in
    simp (compared c.args.masks c.args.a c.args.b known, lt-ltb _ _ known, le-ltb _ _ c.if-b-ge2.true)

pub returns-else-b-ge2 : goal.returns-else-b-ge2
unfolding status_by differ
returns-else-b-ge2 c = simp (lt-ltb _ _ c.if-a-ge2.false, lt-ltb _ _ c.if-b-ge2.false, ne_eqb _ _ c.if-a-b.false)
