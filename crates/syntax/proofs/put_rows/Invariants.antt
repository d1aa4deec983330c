-- `syntax::put_rows` meets its contract: each character is put as the beginning of its row.
-- Assumes nothing.
use Rattle.syntax.proofs.Rows.{RowsFilling}
use Rattle.syntax.proofs.put_rows.Given as goal

abbrev pub invariant-loop-k : goal.invariant-loop-k
invariant-loop-k l = RowsFilling l.states l.rows l.k
