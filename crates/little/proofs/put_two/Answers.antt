-- `little::put_two` meets its contract.
-- Assumes nothing.
use Rattle.std.proofs.Common.{◌∙◌}
use Rattle.ground.proofs.Put.{put_part}
use Rattle.little.proofs.Little.{le-length, le_bytes_two}
use Rattle.little.proofs.put_two.Goals as goal

pub returns : goal.returns
returns c = put_part _ _ 2 (c.copy_from_slice.ensures.after ∙ c.to_le_bytes.ensures ∙ le_bytes_two _) (le-length 2 _) c.requires
