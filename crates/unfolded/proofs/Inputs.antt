-- The inputs of the unfolded circuit: in the first step those of the circuit, in each later step the free ones; and their numbers in line order.
-- Assumes nothing.
use mathlib.Core.Path.{◌≡◌, sym, ap, ◌∙◌}
use mathlib.Core.Bool.{Bool, true, false, not, ◌&&◌, and-true, and-false}
use mathlib.Core.List.{List}
use Prim.Native.Nat.{ℕ, zero, suc, ◌+◌, ◌*◌, ◌-◌, ◌≤◌, ◌<◌}
use native.Mathlib.Nat.{add-zero, add-suc, zero-add, zero-mul, suc-mul}
use native.Mathlib.Omega.{arith}
use lib.Dec.{eqb}
use borrow.Author.Tests.{le-leb}
use Rattle.ground.specs.Choose.{choose}
use Rattle.ground.specs.Below.{count_below}
use Rattle.ground.proofs.Counting.{count_same, count_suc}
use Rattle.circuit.specs.Record.{lines_of, kind_at, is_input, inputs_before, inputs_of}
use Rattle.states.specs.States.{is_state, is_free, free_of}
use Rattle.states.specs.Rules.{inputs_after}
use Rattle.unfolded.specs.Unfolded.{buffer, step_kind, unfolded}
use Rattle.unfolded.specs.Inputs.{input_number}
use Rattle.unfolded.proofs.Fields.{unfolded_lines, unfolded_kind}

-- the places below n, and m further ones
count_add : (n m : ℕ) (t : ℕ → Bool) → count_below (n + m) t ≡ count_below n t + count_below m (λ j. t (n + j))
unfolding count_below
count_add n zero t = rw (add-zero n) (omega arith)
count_add n (suc m) t = rw (add-suc n m, count_suc (n + m) t, count_add n m t) (omega arith)

module _ (c st : List ℕ) where
  -- ---- which lines are inputs

  kind_free : (i m : ℕ) → eqb (step_kind c st (suc i) m) 0 ≡ is_free c st m
  unfolding step_kind is_free
  kind_free i m = rw (le-leb 1 (suc i) (omega arith)) (go (is_state st m) (kind_at c m))
    where
      go : (t : Bool) (kind : ℕ) → eqb (choose t buffer kind) 0 ≡ (eqb kind 0 && not t)
      go true kind = sym (and-false (eqb kind 0))
      go false kind = sym (and-true (eqb kind 0))

  module _ (k : ℕ) where
    pub first_input : (m : ℕ) → 0 < k → m < lines_of c → is_input (unfolded c st k) m ≡ is_input c m
    unfolding step_kind
    first_input m h l = ap (λ (x : ℕ). eqb x 0) (rw (zero-mul, zero-add) at (unfolded_kind c st k 0 m h l))

    pub later-input : (i m : ℕ) → suc i < k → m < lines_of c → is_input (unfolded c st k) (suc i * lines_of c + m) ≡ is_free c st m
    later-input i m h l = ap (λ (x : ℕ). eqb x 0) (unfolded_kind c st k (suc i) m h l) ∙ kind_free i m

  -- ---- their numbers

  -- at the end of a step
  number-whole : (i : ℕ) → input_number c st i (lines_of c) ≡ inputs_of c + i * free_of c st
  unfolding input_number
  number-whole zero = rw zero-mul (omega arith)
  number-whole (suc i) = rw suc-mul (omega arith)

  module _ (k : ℕ) where
    pub inputs_before_lem : (i m : ℕ) → i < k → m ≤ lines_of c → inputs_before (unfolded c st k) (i * lines_of c + m) ≡ input_number c st i m
    unfolding input_number
    inputs_before_lem zero m h l = rw (zero-mul, zero-add) (count_same m (is_input (unfolded c st k)) (is_input c) (λ j g. first_input k j h (omega arith)))
    inputs_before_lem (suc i) m h l =
        let u = is_input (unfolded c st k) in
        let whole : count_below (suc i * lines_of c) u ≡ inputs_of c + i * free_of c st =
        ap (λ (x : ℕ). count_below x u) (suc-mul i (lines_of c)) ∙ inputs_before_lem i (lines_of c) (omega arith) (omega arith) ∙ number-whole i in
        count_add (suc i * lines_of c) m u ∙ rw (whole, count_same m (λ j. u (suc i * lines_of c + j)) (is_free c st) (λ j g. later-input k i j h (omega arith)))

  -- how many there are
  pub unfolded-inputs : (k : ℕ) → 1 ≤ k → inputs_of (unfolded c st k) ≡ inputs_after c st k
  unfolded-inputs zero h = absurd (omega arith)
  unfolded-inputs (suc j) h =
      let less : suc j - 1 ≡ j = omega arith in
      ap (λ (x : ℕ). inputs_before (unfolded c st (suc j)) x) (unfolded_lines c st (suc j) ∙ suc-mul j (lines_of c))
      ∙ inputs_before_lem (suc j) j (lines_of c) (omega arith) (omega arith)
      ∙ rw less (number-whole j)
