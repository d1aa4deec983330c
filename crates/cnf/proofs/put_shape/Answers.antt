-- `cnf::put_shape` meets its contract: one shape for each branch.
-- Assumes nothing.
use borrow.Author.Tests.{le-leb, lt-leb}
use mir.Facts.{to_z-of_z}
use native.Mathlib.Omega.{arith}
use Rattle.cnf.specs.Owed.{by_shape}
use Rattle.cnf.proofs.put_shape.Goals as goal

pub put_buffer-requires : goal.put_buffer-requires
unfolding by_shape
put_buffer-requires c = omega (arith, simp (le-leb _ _ c.if-kind-le2.true) at c.requires)

pub returns-then-kind-le2 : goal.returns-then-kind-le2
unfolding by_shape
returns-then-kind-le2 c =
    let fits = c.ranges in
    simp (le-leb _ _ c.if-kind-le2.true)
    (simp (to_z-of_z fits.y, to_z-of_z fits.not_y, to_z-of_z fits.a, to_z-of_z fits.not_a) at c.put_buffer.ensures)

pub put_and-requires : goal.put_and-requires
unfolding by_shape
put_and-requires c = omega (arith, simp (lt-leb _ _ c.if-kind-le2.false, le-leb _ _ c.if-kind-le6.true) at c.requires)

pub returns-then-kind-le6 : goal.returns-then-kind-le6
unfolding by_shape
returns-then-kind-le6 c =
    let fits = c.ranges in
    simp (lt-leb _ _ c.if-kind-le2.false, le-leb _ _ c.if-kind-le6.true)
    (simp (to_z-of_z fits.y, to_z-of_z fits.not_y, to_z-of_z fits.a, to_z-of_z fits.not_a, to_z-of_z fits.b, to_z-of_z fits.not_b)
    at c.put_and.ensures)

pub put_xor-requires : goal.put_xor-requires
unfolding by_shape
put_xor-requires c = omega (arith, simp (lt-leb _ _ c.if-kind-le2.false, lt-leb _ _ c.if-kind-le6.false) at c.requires)

pub returns : goal.returns
unfolding by_shape
returns c =
    let fits = c.ranges in
    simp (lt-leb _ _ c.if-kind-le2.false, lt-leb _ _ c.if-kind-le6.false)
    (simp (to_z-of_z fits.y, to_z-of_z fits.not_y, to_z-of_z fits.a, to_z-of_z fits.not_a, to_z-of_z fits.b, to_z-of_z fits.not_b)
    at c.put_xor.ensures)
