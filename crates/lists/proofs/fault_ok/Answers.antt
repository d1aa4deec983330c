-- `lists::fault_ok` meets its contract: each field is tested.
-- Assumes nothing.
use Rattle.std.proofs.Common.{arith}
use Rattle.std.proofs.lemmas.Grind.{common_steps}
use Rattle.std.proofs.lemmas.Bool.Decides.{nat_tests}
use Rattle.lists.specs.Faults.{fault_ok}
use Rattle.lists.proofs.fault_ok.Goals as goal

pub returns-then-pair_at-eq0 : goal.returns-then-pair_at-eq0
unfolding fault_ok
returns-then-pair_at-eq0 c = grind (arith, common_steps, nat_tests)

pub returns-else-pair_at-eq0 : goal.returns-else-pair_at-eq0
unfolding fault_ok
returns-else-pair_at-eq0 c = grind (arith, common_steps, nat_tests)
