-- `rounds::few` meets its contract: the product stays small.
-- Assumes nothing.
use Prim.Native.Nat.{◌*◌, ◌≤◌}
use native.Mathlib.Nat.{mul-le-mul}
use native.Mathlib.Omega.{arith}
use Rattle.rounds.proofs.few.Goals as goal

pub overflow_mul-result-2 : goal.overflow_mul-result-2
overflow_mul-result-2 c =
    let lines : 3 * c.args.n ≤ 6144 = omega (arith, c.requires.1) in
    omega (arith, mul-le-mul lines c.requires.0)
