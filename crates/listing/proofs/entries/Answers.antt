-- `listing::entries` meets its contract: 256 times 256 entries are the most.
-- Assumes nothing.
use mathlib.Core.Path.{refl}
use Prim.Native.Nat.{ℕ, ◌*◌, ◌≤◌}
use native.Mathlib.Nat.{mul-le-mul}
use native.Mathlib.Omega.{arith}
use Rattle.listing.proofs.entries.Goals as goal

most : (f p : ℕ) → f ≤ 256 → p ≤ 256 → f * p ≤ 65536
most f p a b = let h : f * p ≤ 256 * 256 = mul-le-mul a b in omega arith

pub overflow_mul-result : goal.overflow_mul-result
overflow_mul-result c = omega (arith, most c.args.faults c.args.patterns (omega arith) (omega arith))

pub returns : goal.returns
returns c = record { product = λ a b. refl; most = most _ _ (omega arith) (omega arith) }
