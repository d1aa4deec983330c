-- What the code has for the table of the kinds: the digits of a kind's block are its values.
-- Assumes nothing.
use mathlib.Core.Path.{◌≡◌, refl, sym, ap₂, ◌∙◌}
use mathlib.Core.Bool.{Bool}
use Prim.Native.Nat.{ℕ, zero, suc, ◌+◌, ◌*◌, ◌/◌, ◌%◌, ◌≤◌, ◌<◌}
use native.Mathlib.Omega.{arith}
use lib.Dec.{T, eqb, eqb→eq}
use lib.ListN.{get_or}
use Rattle.ground.specs.Below.{all_below}
use Rattle.ground.proofs.Below.{at_below}
use Rattle.gates.specs.Gate.{X, selector, gate_table, three_of, place_of, gate_of, at_pins}
use Rattle.gates.specs.Owed.{hex_of, block_of, digit_of}
use Rattle.gates.proofs.Values.{three_own}
use Rattle.gates.proofs.Table.{beyond, by_kind}

hex_same : (f g : ℕ → ℕ) (n : ℕ) → ((p : ℕ) → f p ≡ g p) → hex_of f n ≡ hex_of g n
hex_same f g zero h = refl
hex_same f g (suc n) h = ap₂ (λ (x y : ℕ). 16 * x + y) (hex_same f g n h) (h n)

-- a kind without a block
pub no_block : (k : ℕ) → selector ≤ k → block_of k ≡ 0x2222222222222222
unfolding block_of
no_block k h = hex_same _ (λ p. 2) 16 (λ p. beyond (place_of k (three_of (p / 4)) (three_of (p % 4))) (omega arith))

digit_test : ℕ → ℕ → ℕ → Bool
digit_test k a b = eqb (digit_of (block_of k) a b) (get_or gate_table (place_of k a b) X)

digits-all : T (all_below selector (λ k. all_below 3 (λ a. all_below 3 (λ b. digit_test k a b))))
unfolding digit_test block_of digit_of gate_table three_of
digits-all = tt

-- the digit is the value that is looked up
looked-up : (k a b : ℕ) → k < selector → a < 3 → b < 3 → digit_of (block_of k) a b ≡ get_or gate_table (place_of k a b) X
unfolding digit_test
looked-up k a b l p q =
    eqb→eq _ _
    (at_below 3 (λ y. digit_test k a y)
    (at_below 3 (λ x. all_below 3 (λ y. digit_test k x y))
    (at_below selector (λ j. all_below 3 (λ x. all_below 3 (λ y. digit_test j x y))) digits-all k l) a p) b q)

-- and so the value of the gate
pub by_digit : {k a b : ℕ} (c : ℕ) {number x y r : ℕ}
    → k < selector
    → (a ≤ 2) × (b ≤ 2)
    → x ≡ a
    → y ≡ b
    → number ≡ block_of k
    → r ≡ digit_of number x y
    → r ≡ gate_of k (at_pins a b c)
by_digit {k} {a} {b} c l small f g e s =
    s
    ∙ rw (e, f, g) (looked-up k a b l (omega (arith, small.0)) (omega (arith, small.1)))
    ∙ ap₂ (λ (x y : ℕ). get_or gate_table (place_of k x y) X) (three_own a small.0) (three_own b small.1)
    ∙ sym (by_kind k _ (λ h. omega arith))
