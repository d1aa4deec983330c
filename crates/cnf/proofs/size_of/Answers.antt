-- `cnf::size_of` meets its contract: one answer for each branch.
-- Assumes nothing.
use borrow.Author.Tests.{eq-eqb, ne_eqb, le-leb, lt-leb}
use Rattle.cnf.proofs.Sizes.{by_kind, takes}
use Rattle.cnf.specs.Owed.{by_shape}
use Rattle.cnf.proofs.size_of.Goals as goal

pub returns-then-kind-eq0 : goal.returns-then-kind-eq0
unfolding by_kind by_shape
returns-then-kind-eq0 c = takes _ c.requires _ (simp (eq-eqb _ _ c.if-kind-eq0.true)) (simp (eq-eqb _ _ c.if-kind-eq0.true))

pub returns-then-kind-le2 : goal.returns-then-kind-le2
unfolding by_kind by_shape
returns-then-kind-le2 c =
    let some = ne_eqb _ _ c.if-kind-eq0.false in
    let buffer = le-leb _ _ c.if-kind-le2.true in
    takes _ c.requires _ (simp (some, buffer)) (simp (some, buffer))

pub returns-then-kind-le6 : goal.returns-then-kind-le6
unfolding by_kind by_shape
returns-then-kind-le6 c =
    let some = ne_eqb _ _ c.if-kind-eq0.false in
    let no_buffer = lt-leb _ _ c.if-kind-le2.false in
    let and = le-leb _ _ c.if-kind-le6.true in
    takes _ c.requires _ (simp (some, no_buffer, and)) (simp (some, no_buffer, and))

pub returns : goal.returns
unfolding by_kind by_shape
returns c =
    let some = ne_eqb _ _ c.if-kind-eq0.false in
    let no_buffer = lt-leb _ _ c.if-kind-le2.false in
    let xor = lt-leb _ _ c.if-kind-le6.false in
    takes _ c.requires _ (simp (some, no_buffer, xor)) (simp (some, no_buffer, xor))
