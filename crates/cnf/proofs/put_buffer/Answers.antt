-- `cnf::put_buffer` meets its contract: two clauses, one after the other.
-- Assumes nothing.
use mir.Facts.{to_z-of_z}
use Rattle.ground.proofs.Put.{put_then}
use Rattle.cnf.proofs.put_buffer.Goals as goal

pub returns : goal.returns
returns c =
    simp (to_z-of_z c.ranges.y, to_z-of_z c.ranges.not_y, to_z-of_z c.ranges.a, to_z-of_z c.ranges.not_a) at
    (put_then c.put_clause-next.ensures c.put_clause.ensures)
