-- `cnf::put_selector` meets its contract: the four clauses of the row, one after the other.
-- Assumes nothing.
use Rattle.cnf.specs.Table.{clause_table, gate_clauses}
use Rattle.ground.proofs.Put.{put_then}
use Rattle.cnf.proofs.Signed.{plus_back, minus_back}
use Rattle.cnf.proofs.put_selector.Goals as goal

pub returns : goal.returns
unfolding gate_clauses clause_table
returns c =
    let pre = c.requires in
    rw (
      plus_back pre.own c.plus-own.ensures,
      minus_back pre.own c.minus-not_own.ensures,
      plus_back pre.third c.plus-select.ensures,
      minus_back pre.third c.minus-not_select.ensures,
      plus_back pre.first c.plus.ensures,
      minus_back pre.first c.minus.ensures,
      plus_back pre.second c.plus-2.ensures,
      minus_back pre.second c.minus-2.ensures,
    ) at
    (put_then c.put_clause-second.ensures
    (put_then c.put_clause-third.ensures
    (put_then c.put_clause-fourth.ensures c.put_clause.ensures)))
