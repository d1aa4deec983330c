-- An assignment made of the values of the lines, and what makes two assignments the same.
-- Assumes nothing.
use mathlib.Core.Path.{◌≡◌, refl}
use mathlib.Core.Bool.{Bool, true}
use mathlib.Core.List.{List}
use Prim.Native.Nat.{ℕ, ◌+◌, ◌*◌, ◌-◌, ◌/◌, ◌%◌, ◌≤◌, ◌<◌}
use native.Mathlib.Decide.{ℕ_discrete, dec_le}
use native.Mathlib.Omega.{arith}
use lib.Dec.{eqb, leb}
use borrow.Author.Tests.{eq-eqb, ne_eqb, le-leb, lt-leb}
use Rattle.ground.specs.Choose.{choose}
use Rattle.circuit.specs.Record.{is_output, outputs_before}
use Rattle.cnf.specs.Cnf.{Assignment}
use Rattle.line_clauses.specs.Clauses.{good_var, faulty_var, stuck_var, difference_var, variables_of}
use Rattle.satisfied.specs.Satisfied.{SameTo}
use Rattle.satisfied.proofs.Places.{at_places}

-- g and h are the good and the faulty values, d the differences by their numbers, v the stuck value
unfoldable pub assigned : ℕ → (ℕ → Bool) → (ℕ → Bool) → (ℕ → Bool) → Bool → Assignment
assigned n g h d v m =
    choose (leb m (2 * n)) (choose (eqb (m % 2) 1) (g (m / 2)) (h (m / 2 - 1))) (choose (eqb m (2 * n + 1)) v (d (m - (2 * n + 2))))

module _ (n : ℕ) (g h d : ℕ → Bool) (v : Bool) where
  pub at_good : (k : ℕ) → k < n → assigned n g h d v (good_var k) ≡ g k
  unfolding assigned
  at_good k l =
      let e : (2 * k + 1) / 2 ≡ k = omega arith in
      rw (le-leb (2 * k + 1) (2 * n) (omega arith), eq-eqb ((2 * k + 1) % 2) 1 (omega arith), e)

  pub at_faulty : (k : ℕ) → k < n → assigned n g h d v (faulty_var k) ≡ h k
  unfolding assigned
  at_faulty k l =
      let e : (2 * k + 2) / 2 - 1 ≡ k = omega arith in
      rw (le-leb (2 * k + 2) (2 * n) (omega arith), ne_eqb ((2 * k + 2) % 2) 1 (omega arith), e)

  pub at_stuck : assigned n g h d v (stuck_var n) ≡ v
  unfolding assigned
  at_stuck = rw (lt-leb (2 * n + 1) (2 * n) (omega arith), eq-eqb (2 * n + 1) (2 * n + 1) refl)

  pub at_difference : (j : ℕ) → assigned n g h d v (difference_var n j) ≡ d j
  unfolding assigned
  at_difference j =
      let e : 2 * n + 2 + j - (2 * n + 2) ≡ j = omega arith in
      rw (lt-leb (2 * n + 2 + j) (2 * n) (omega arith), ne_eqb (2 * n + 2 + j) (2 * n + 1) (omega arith), e)

-- two assignments that agree at the named variables agree at each number from 1 to the last
module _ (c : List ℕ) (n : ℕ) (σ τ : Assignment) where
  pub everywhere : ((k : ℕ) → k < n → σ (good_var k) ≡ τ (good_var k))
      → ((k : ℕ) → k < n → σ (faulty_var k) ≡ τ (faulty_var k))
      → σ (stuck_var n) ≡ τ (stuck_var n)
      → ((k : ℕ) → k < n → is_output c k ≡ true → σ (difference_var n (outputs_before c k)) ≡ τ (difference_var n (outputs_before c k)))
      → SameTo (variables_of c n) σ τ
  everywhere good faulty stuck difference m l q = go (dec_le m (2 * n)) (ℕ_discrete m (2 * n + 1)) (ℕ_discrete m (2 * (m / 2) + 1))
    where
      go : Dec (m ≤ 2 * n) → Dec (m ≡ 2 * n + 1) → Dec (m ≡ 2 * (m / 2) + 1) → σ m ≡ τ m
      go (yes a) b (yes e) = rw e (good (m / 2) (omega arith))
      go (yes a) b (no e) = let e' : m ≡ 2 * (m / 2 - 1) + 2 = omega arith in rw e' (faulty (m / 2 - 1) (omega arith))
      go (no a) (yes b) d = rw b stuck
      go (no a) (no b) d =
          let e : m ≡ difference_var n (m - (2 * n + 2)) = omega arith in
          rw e (at_places (is_output c) (λ j. σ (difference_var n j) ≡ τ (difference_var n j)) n difference (m - (2 * n + 2)) (omega arith))
