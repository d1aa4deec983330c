-- What the clauses of each line say of an assignment, and which variables they name.
-- Assumes nothing.
use mathlib.Core.Path.{◌≡◌, refl, ap, ◌∙◌}
use mathlib.Core.Bool.{Bool, true, false, not, beq}
use mathlib.Core.List.{List, []}
use Prim.Native.Nat.{ℕ, zero, suc, ◌+◌, ◌*◌, ◌≤◌, ◌<◌}
use native.Mathlib.Omega.{arith}
use lib.Dec.{eqb}
use borrow.Author.Tests.{eqb-true, eqb-false, ne_eqb}
use Rattle.ground.specs.Choose.{choose}
use Rattle.ground.proofs.Counting.{count_below_lem}
use Rattle.gates.specs.Gate.{pins_of}
use Rattle.gates.specs.Boolean.{bool_gate}
use Rattle.gates.proofs.Laws.{few_pins}
use Rattle.circuit.specs.Record.{kind_at, pin_at, is_input, is_output, inputs_before, outputs_before}
use Rattle.circuit.specs.Formed.{WellFormed}
use Rattle.lists.specs.declared.Fault.{Fault}
use Rattle.simulate.specs.Boolean.{Vector, faulty}
use Rattle.cnf.specs.Cnf.{Assignment, satisfied, variables_to}
use Rattle.cnf.specs.Table.{gate_clauses, sites}
use Rattle.cnf.proofs.Gate.{NumberTo, gate_law, gate_variables, no_clauses}
use Rattle.lists.specs.Faults.{is_at}
use Rattle.line_clauses.specs.Clauses.{good_var, faulty_var, stuck_var, difference_var, variables_of, line_at, faulty_site, buffer_clauses, good_clauses, faulty_clauses, xor_clauses, difference_clauses}
use Rattle.satisfied.proofs.Columns.{follows, gate_pins}

-- ---- numbers of variables are numbers from 1 on

choose_all : {A : Type 0} (P : A → Type 0) (t : Bool) {a b : A} → P a → P b → P (choose t a b)
choose_all P true p q = p
choose_all P false p q = q

site_some : (c : List ℕ) (f : Fault) (n k s : ℕ) → 1 ≤ faulty_site c f n k s
unfolding faulty_site
site_some c f n k s = choose_all (λ v. 1 ≤ v) (is_at f k s) (omega arith) (omega arith)

-- what holds of each of four variables holds at every site
sites_each : (P : ℕ → Type 0) {y a b s : ℕ} → P y → P a → P b → P s → (site : ℕ) → P (sites y a b s site)
sites_each P own first second third site = choose_all P (eqb site 0) own (choose_all P (eqb site 1) first (choose_all P (eqb site 2) second third))

choose_ap : {A B : Type 0} (σ : A → B) (t : Bool) (a b : A) → σ (choose t a b) ≡ choose t (σ a) (σ b)
choose_ap σ true a b = refl
choose_ap σ false a b = refl

-- at a pin stands the line that it reads
at_pin : (c : List ℕ) (k : ℕ) {s : ℕ} → 1 ≤ s → line_at c k s ≡ pin_at c k s
at_pin c k {s} h = rw (ne_eqb s 0 (omega arith))

-- ---- what the clauses say

module _ (σ : Assignment) {c : List ℕ} {m n : ℕ} (w : WellFormed c m n) {k : ℕ} (l : k < n) where
  module _ (gate : is_input c k ≡ false) where
    some_kind : 1 ≤ kind_at c k
    some_kind = let ne : kind_at c k ≡ 0 → ⊥ = eqb-false (kind_at c k) 0 gate in omega arith

    pub good-gate_law : satisfied σ (good_clauses c k) ≡ beq (σ (good_var k)) (bool_gate (kind_at c k) (λ s. σ (good_var (pin_at c k s))))
    unfolding good_clauses
    good-gate_law =
        gate_law σ (kind_at c k) (λ s. good_var (line_at c k s)) (λ s. omega arith) some_kind (w.kinds k l)
        ∙ ap (beq (σ (good_var k))) (gate_pins w l gate _ _ (λ s a b. ap (λ (j : ℕ). σ (good_var j)) (at_pin c k a)))

    faulty-gate_law : (f : Fault) → is_at f k 0 ≡ false → satisfied σ (gate_clauses (kind_at c k) (faulty_site c f n k))
        ≡ beq (σ (faulty_var k)) (bool_gate (kind_at c k) (λ s. choose (is_at f k s) (σ (stuck_var n)) (σ (faulty_var (pin_at c k s)))))
    unfolding faulty_site
    faulty-gate_law f e =
        gate_law σ (kind_at c k) (faulty_site c f n k) (site_some c f n k) some_kind (w.kinds k l)
        ∙ rw e
        (ap (beq (σ (faulty_var k)))
        (gate_pins w l gate _ _
        (λ s a b. choose_ap σ (is_at f k s) (stuck_var n) (faulty_var (line_at c k s)) ∙ ap (λ (j : ℕ). choose (is_at f k s) (σ (stuck_var n)) (σ (faulty_var j))) (at_pin c k a))))

  pub good-input_law : is_input c k ≡ true → satisfied σ (good_clauses c k) ≡ true
  unfolding good_clauses
  good-input_law e = rw (no_clauses (kind_at c k) (λ s. good_var (line_at c k s)) (eqb-true (kind_at c k) 0 e))

buffer_law : (σ : Assignment) (y a : ℕ) → 1 ≤ y → 1 ≤ a → satisfied σ (buffer_clauses y a) ≡ beq (σ y) (σ a)
unfolding bool_gate
buffer_law σ y a p q = gate_law σ 1 _ (sites_each (λ v. 1 ≤ v) p q q q) (omega arith) (omega arith)

-- a line follows from its sources as in the good and in the faulty circuit, where the assignment extends the vector
module _ (σ : Assignment) {c : List ℕ} {m n : ℕ} (w : WellFormed c m n) (x : Vector) (f : Fault) (stuck : σ (stuck_var n) ≡ eqb f.value 1) {k : ℕ} (l : k < n) where
  pub faulty_law : (is_input c k ≡ true → σ (good_var k) ≡ x (inputs_before c k)) → satisfied σ (faulty_clauses c f n k) ≡ beq (σ (faulty_var k)) (follows (faulty f) c x (λ j. σ (faulty_var j)) k)
  unfolding faulty_clauses follows faulty
  faulty_law input = go (is_at f k 0) refl (is_input c k) refl
    where
      go : (s : Bool) → is_at f k 0 ≡ s → (t : Bool) → is_input c k ≡ t
          → satisfied σ (choose s (buffer_clauses (faulty_var k) (stuck_var n)) (choose t (buffer_clauses (faulty_var k) (good_var k)) (gate_clauses (kind_at c k) (faulty_site c f n k))))
          ≡ beq (σ (faulty_var k))
          (choose s (eqb f.value 1) (choose t (x (inputs_before c k)) (bool_gate (kind_at c k) (λ s. choose (is_at f k s) (eqb f.value 1) (σ (faulty_var (pin_at c k s)))))))
      go true e t q = buffer_law σ (faulty_var k) (stuck_var n) (omega arith) (omega arith) ∙ rw stuck
      go false e true q = buffer_law σ (faulty_var k) (good_var k) (omega arith) (omega arith) ∙ rw (input q)
      go false e false q = faulty-gate_law σ w l q f e ∙ rw stuck

-- the difference at an output
module _ (σ : Assignment) (c : List ℕ) (n k : ℕ) where
  pub difference_law : is_output c k ≡ true → satisfied σ (difference_clauses c n k) ≡ beq (σ (difference_var n (outputs_before c k))) (not (beq (σ (good_var k)) (σ (faulty_var k))))
  unfolding difference_clauses bool_gate
  difference_law o =
      rw o
      (gate_law σ 7 (sites (difference_var n (outputs_before c k)) (good_var k) (faulty_var k) (faulty_var k))
      (sites_each (λ v. 1 ≤ v) (omega arith) (omega arith) (omega arith) (omega arith)) (omega arith) (omega arith))

  pub no_difference : is_output c k ≡ false → satisfied σ (difference_clauses c n k) ≡ true
  unfolding difference_clauses
  no_difference o = rw o

-- ---- which variables they name: none above the last

module _ {c : List ℕ} {m n : ℕ} (w : WellFormed c m n) {k : ℕ} (l : k < n) where
  last : ℕ
  last = variables_of c n

  up : {v : ℕ} → 1 ≤ v → v ≤ 2 * n + 1 → NumberTo last v
  unfolding last
  up p q = (p, omega arith)

  buffer_variables : {y a : ℕ} → 1 ≤ y → y ≤ 2 * n + 1 → 1 ≤ a → a ≤ 2 * n + 1 → variables_to (variables_of c n) (buffer_clauses y a) ≡ true
  unfolding last
  buffer_variables p q r s = gate_variables (variables_of c n) 1 _ (omega arith) (λ i _. sites_each (NumberTo last) (up p q) (up r s) (up r s) (up r s) i)

  module _ (gate : is_input c k ≡ false) where
    -- what each site shows is a line of the circuit
    line_low : (s : ℕ) → s ≤ pins_of (kind_at c k) → line_at c k s < n
    line_low zero h = l
    line_low (suc s) h =
        let source : pin_at c k (suc s) < k = w.lower k l (eqb-false (kind_at c k) 0 gate) (suc s) (omega arith) (omega (arith, h, few_pins (kind_at c k))) in
        rw (at_pin c k {s = suc s} (omega arith)) (omega arith)

    pub good-gate_variables : variables_to (variables_of c n) (good_clauses c k) ≡ true
    unfolding last good_clauses
    good-gate_variables =
        gate_variables (variables_of c n) (kind_at c k) _ (w.kinds k l) (λ s h. up (omega arith) (omega (arith, line_low s h)))

    faulty-gate_variables : (f : Fault) → variables_to (variables_of c n) (gate_clauses (kind_at c k) (faulty_site c f n k)) ≡ true
    unfolding last faulty_site
    faulty-gate_variables f =
        gate_variables (variables_of c n) (kind_at c k) (faulty_site c f n k) (w.kinds k l)
        (λ s h. choose_all (NumberTo last) (is_at f k s) (up (omega arith) (omega arith)) (up (omega arith) (omega (arith, line_low s h))))

  pub good_variables : variables_to (variables_of c n) (good_clauses c k) ≡ true
  good_variables = go (is_input c k) refl
    where
      go : (t : Bool) → is_input c k ≡ t → variables_to (variables_of c n) (good_clauses c k) ≡ true
      go true e = unfold good_clauses in rw (no_clauses (kind_at c k) (λ s. good_var (line_at c k s)) (eqb-true (kind_at c k) 0 e))
      go false e = good-gate_variables e

  pub faulty_variables : (f : Fault) → variables_to (variables_of c n) (faulty_clauses c f n k) ≡ true
  unfolding faulty_clauses
  faulty_variables f = go (is_at f k 0) refl (is_input c k) refl
    where
      go : (s : Bool) → is_at f k 0 ≡ s → (t : Bool) → is_input c k ≡ t
          → variables_to (variables_of c n)
          (choose s (buffer_clauses (faulty_var k) (stuck_var n)) (choose t (buffer_clauses (faulty_var k) (good_var k)) (gate_clauses (kind_at c k) (faulty_site c f n k))))
          ≡ true
      go true e t q = buffer_variables (omega arith) (omega arith) (omega arith) (omega arith)
      go false e true q = buffer_variables (omega arith) (omega arith) (omega arith) (omega arith)
      go false e false q = faulty-gate_variables q f

  pub difference_variables : variables_to (variables_of c n) (difference_clauses c n k) ≡ true
  unfolding last difference_clauses
  difference_variables = go (is_output c k) refl
    where
      go : (t : Bool) → is_output c k ≡ t → variables_to (variables_of c n) (choose t (xor_clauses (difference_var n (outputs_before c k)) (good_var k) (faulty_var k)) []) ≡ true
      go true o =
          let h : outputs_before c k < outputs_before c n = count_below_lem (is_output c) k n l o in
          let faulty : NumberTo last (faulty_var k) = up (omega arith) (omega arith) in
          gate_variables (variables_of c n) 7 _ (omega arith)
          (λ i _. sites_each (NumberTo last) (omega arith, omega arith) (up (omega arith) (omega arith)) faulty faulty i)
      go false o = refl
