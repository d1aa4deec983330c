-- `clauses::put_stuck` meets its contract: the variable, or its negation.
-- Assumes nothing.
use borrow.Author.Tests.{eq-eqb, ne_eqb}
use native.Mathlib.Omega.{arith}
use Prim.Native.Nat.{◌+◌, ◌*◌}
use Rattle.line_clauses.proofs.Lines.{variable}
use Rattle.cnf.proofs.Signed.{plus_back, minus_back}
use Rattle.clauses.proofs.put_stuck.Goals as goal

pub returns-then-fault-eq-PLAIN : goal.returns-then-fault-eq-PLAIN
returns-then-fault-eq-PLAIN c =
    let number = 2 * c.args.n + 1 in
    rw (eq-eqb _ _ c.if-fault-eq-PLAIN.true, ← plus_back {v = number} (variable (omega arith)) c.plus.ensures)
    c.put_clause.ensures

pub returns : goal.returns
returns c =
    let number = 2 * c.args.n + 1 in
    rw (ne_eqb _ _ c.if-fault-eq-PLAIN.false, ← minus_back {v = number} (variable (omega arith)) c.minus.ensures)
    c.put_clause-2.ensures
