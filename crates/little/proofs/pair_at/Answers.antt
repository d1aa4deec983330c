-- `little::pair_at` meets its contract.
-- Assumes nothing.
use Rattle.std.proofs.Common.{◌∙◌}
use Rattle.little.proofs.Little.{pair_bytes}
use Rattle.little.proofs.pair_at.Goals as goal

pub returns : goal.returns
returns c = c.from.ensures ∙ c.from_le_bytes.ensures ∙ pair_bytes _ _
