-- `little::put_eight` meets its contract.
-- Assumes nothing.
use Rattle.std.proofs.Common.{◌∙◌}
use Rattle.ground.proofs.Put.{put_part}
use Rattle.little.proofs.Little.{le-length, le_bytes_eight}
use Rattle.little.proofs.put_eight.Goals as goal

pub returns : goal.returns
returns c =
    let p = put_part _ _ 8 (c.copy_from_slice.ensures.after ∙ c.to_le_bytes.ensures ∙ le_bytes_eight _) (le-length 8 _) c.requires in
    p.written
