-- `cnf::put_and` meets its contract: three clauses, one after the other.
-- Assumes nothing.
use mir.Facts.{to_z-of_z}
use Rattle.ground.proofs.Put.{put_then}
use Rattle.cnf.proofs.put_and.Goals as goal

pub returns : goal.returns
returns c =
    let fits = c.ranges in
    simp (to_z-of_z fits.y, to_z-of_z fits.not_y, to_z-of_z fits.a, to_z-of_z fits.not_a, to_z-of_z fits.b, to_z-of_z fits.not_b) at
    (put_then c.put_clause-second.ensures (put_then c.put_clause-third.ensures c.put_clause.ensures))
