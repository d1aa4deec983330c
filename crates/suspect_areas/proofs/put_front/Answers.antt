-- `suspect_areas::put_front` meets its contract: the product of two counts in range fits.
-- Assumes nothing.
use native.Mathlib.Nat.{mul-le-mul}
use native.Mathlib.Omega.{arith}
use Rattle.suspect_areas.proofs.put_front.Goals as goal

pub overflow_mul-state : goal.overflow_mul-state
overflow_mul-state c = let o = c.requires.0 in omega (arith, mul-le-mul o.few_faults o.few_patterns)
