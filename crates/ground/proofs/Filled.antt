-- Memory that holds x everywhere, a front part of it, and the rest.
-- Assumes nothing.
use mathlib.Core.Path.{◌≡◌, refl, ap}
use mathlib.Core.List.{List, ◌∷◌}
use Prim.Native.Nat.{ℕ, zero, suc, ◌-◌, ◌≤◌}
use native.Mathlib.Nat.{not-suc-le-zero, le_of_suc-le-suc}
use native.Mathlib.Omega.{arith}
use lib.ListN.{length, get_or, take, drop, replicate, length-replicate}
use lib.Seq.{length-take-le}

pub take-replicate : (m n x : ℕ) → n ≤ m → take n (replicate m x) ≡ replicate n x
take-replicate m zero x l = refl
take-replicate zero (suc n) x l = absurd (not-suc-le-zero l)
take-replicate (suc m) (suc n) x l = ap (λ (w : List ℕ). x ∷ w) (take-replicate m n x (le_of_suc-le-suc l))

pub drop-replicate : (m n x : ℕ) → drop {A = ℕ} n (replicate m x) ≡ replicate (m - n) x
drop-replicate m zero x = let e : m - 0 ≡ m = omega arith in rw e
drop-replicate zero (suc n) x = let e : 0 - suc n ≡ 0 = omega arith in rw e
drop-replicate (suc m) (suc n) x = let e : suc m - suc n ≡ m - n = omega arith in rw e (drop-replicate m n x)

-- also outside, where x is read there
pub filled_at : (n x k : ℕ) → get_or (replicate n x) k x ≡ x
filled_at zero x k = refl
filled_at (suc n) x zero = refl
filled_at (suc n) x (suc k) = filled_at n x k

-- how long it is, and how long a front part is: by law, so that no check counts a list of thousands
pub filled-length : (size x : ℕ) → length {A = ℕ} (replicate size x) ≡ size
filled-length size x = length-replicate size x

pub front_length : (size x n : ℕ) → n ≤ size → length {A = ℕ} (take n (replicate size x)) ≡ n
front_length size x n l = length-take-le n (replicate size x) (omega (arith, filled-length size x))
