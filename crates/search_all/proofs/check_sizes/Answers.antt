-- `search_all::check_sizes` meets its contract: the rules are built from the last to the first.
-- Assumes nothing.
use native.Mathlib.Nat.{mul-le-mul}
use native.Mathlib.Omega.{arith}
use Rattle.answers.specs.Rules.{refusal}
use Rattle.search_all.specs.Promise.{list_lent_rules}
use Rattle.search_all.proofs.check_sizes.Goals as goal

pub overflow_mul-faults : goal.overflow_mul-faults
overflow_mul-faults c = omega (arith, mul-le-mul c.requires.0 c.requires.1)

pub returns : goal.returns
unfolding refusal list_lent_rules
returns c = cc
