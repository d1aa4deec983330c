-- A choice by a test.
-- Assumes nothing.
use Rattle.std.specs.Prelude.{ℕ, Bool, true, false}

abbrev pub choose {ℓ} : {A : Type ℓ} → Bool → A → A → A
choose true a b = a
choose false a b = b

-- a test as a number
abbrev pub one : Bool → ℕ
one true = 1
one false = 0
