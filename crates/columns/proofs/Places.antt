-- The places of a table, row by row: no two are the same, and all lie within it.
-- Assumes nothing.
use mathlib.Core.Path.{◌≡◌, sym, ap, ◌∙◌}
use Prim.Native.Nat.{ℕ, ◌+◌, ◌*◌, ◌/◌, ◌%◌, ◌<◌}
use native.Mathlib.Nat.{mul_comm}
use lib.Arith.{digits_lt, digits_div, digits_mod}

module _ {width : ℕ} (i k : ℕ) {j l : ℕ} (a : j < width) (b : l < width) (e : i * width + j ≡ k * width + l) where
  pub same_row : i ≡ k
  same_row = sym (digits_div i a) ∙ ap (λ (z : ℕ). z / width) e ∙ digits_div k b

  pub same_column : j ≡ l
  same_column = sym (digits_mod i a) ∙ ap (λ (z : ℕ). z % width) e ∙ digits_mod k b

pub in_table : (width count i j : ℕ) → i < count → j < width → i * width + j < width * count
in_table width count i j h l = rw (mul_comm width count) (digits_lt h l)
