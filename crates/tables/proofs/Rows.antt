-- A pattern's row of the table: where it stands, and its entries.
-- Assumes nothing.
use mathlib.Core.Path.{◌≡◌, ◌∙◌}
use mathlib.Core.List.{List}
use Prim.Native.Nat.{ℕ, ◌+◌, ◌*◌, ◌≤◌, ◌<◌}
use native.Mathlib.Nat.{suc-mul, mul_comm, mul-le-mul, mul-le-mul_right}
use native.Mathlib.Omega.{arith}
use lib.ListN.{get_or, take, drop}
use lib.Seq.{get_or-take, get_or-drop}
use Rattle.tables.specs.Table.{Sized}

pub row_inside : (p P F : ℕ) → p < P → p * F + F ≤ P * F
row_inside p P F l = rw (← suc-mul p F) (mul-le-mul_right F l)

-- it ends in the table, which is small
pub row_fits : {F P bytes p : ℕ} → Sized F P bytes → p < P → (p * F + F ≤ bytes) × (bytes ≤ 65536)
row_fits {F} {P} {bytes} {p} sized l =
    let most : F * P ≤ 65536 = mul-le-mul sized.few_faults sized.few_patterns in
    (omega (arith, row_inside p P F l, sized.product, mul_comm F P), omega (arith, most, sized.product))

-- an entry of the part that starts there
pub row-entry : (t : List ℕ) (at n f : ℕ) → f < n → get_or (take n (drop at t)) f 0 ≡ get_or t (at + f) 0
row-entry t at n f l = get_or-take n (drop at t) f 0 l ∙ get_or-drop at t f 0
