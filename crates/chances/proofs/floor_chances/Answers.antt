-- `chances::floor_chances` meets its contract.
-- Assumes nothing.
use Rattle.chances.proofs.floor_chances.Goals as goal

pub returns : goal.returns
returns c = λ e p. record { one = c.floored.ensures _ p.one; zero = c.floored-2.ensures _ p.zero }
