-- `gates::block` meets its contract: antt computes the sixteen digits of each kind from the table.
-- Assumes nothing.
use mathlib.Core.Path.{◌≡◌, refl, sym}
use Prim.Native.Nat.{ℕ, ◌+◌, ◌≤◌}
use native.Mathlib.Omega.{arith}
use Rattle.gates.specs.Gate.{gate_table, three_of}
use Rattle.gates.specs.Owed.{block_of}
use Rattle.gates.proofs.Digits.{no_block}
use Rattle.gates.proofs.block.Goals as goal

-- what is from n on and none of the next three is from n + 3 on
passed : (n : ℕ) {k : ℕ} → n ≤ k → (k ≡ n → ⊥) → (k ≡ n + 1 → ⊥) → (k ≡ n + 2 → ⊥) → n + 3 ≤ k
passed n h first second third = omega arith

pub returns-in_default : goal.returns-in_default
returns-in_default c =
    let r = c.in_default.in_default-own.rest in
    let three = passed 0 (omega arith) r.0.0.0.0.0.0.0.0.1 r.0.0.0.0.0.0.0.1 r.0.0.0.0.0.0.1 in
    let six = passed 3 three r.0.0.0.0.0.1 r.0.0.0.0.1 r.0.0.0.1 in
    sym (no_block _ (passed 6 six r.0.0.1 r.0.1 r.1))

pub returns-in-0 : goal.returns-in-0
unfolding block_of gate_table three_of
returns-in-0 c = rw c.in-0.is refl

pub returns-in-1 : goal.returns-in-1
unfolding block_of gate_table three_of
returns-in-1 c = rw c.in-1.is refl

pub returns-in-2 : goal.returns-in-2
unfolding block_of gate_table three_of
returns-in-2 c = rw c.in-2.is refl

pub returns-in-3 : goal.returns-in-3
unfolding block_of gate_table three_of
returns-in-3 c = rw c.in-3.is refl

pub returns-in-4 : goal.returns-in-4
unfolding block_of gate_table three_of
returns-in-4 c = rw c.in-4.is refl

pub returns-in-5 : goal.returns-in-5
unfolding block_of gate_table three_of
returns-in-5 c = rw c.in-5.is refl

pub returns-in-6 : goal.returns-in-6
unfolding block_of gate_table three_of
returns-in-6 c = rw c.in-6.is refl

pub returns-in-7 : goal.returns-in-7
unfolding block_of gate_table three_of
returns-in-7 c = rw c.in-7.is refl

pub returns-in-8 : goal.returns-in-8
unfolding block_of gate_table three_of
returns-in-8 c = rw c.in-8.is refl
