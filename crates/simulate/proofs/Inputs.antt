-- The loop that sets the inputs' lines.
-- Assumes nothing.
use mathlib.Core.Path.{◌≡◌, refl, ◌∙◌}
use mathlib.Core.Bool.{true}
use mathlib.Core.List.{List}
use Prim.Native.Nat.{ℕ, ◌+◌, ◌≤◌, ◌<◌}
use native.Mathlib.Numerals.{add-one}
use native.Mathlib.Omega.{arith}
use lib.ListN.{length, get_or, set, length-set}
use lib.Seq.{get_or-set_same, get_or-set_other}
use borrow.Author.Tests.{eq-eqb}
use borrow.Author.Count.{below_more}
use Rattle.ground.specs.Choose.{one}
use Rattle.ground.specs.Below.{count_below}
use Rattle.ground.proofs.Counting.{count_suc, count_most, count_below_lem}
use Rattle.circuit.specs.Record.{kind_at, is_input, inputs_before}
use Rattle.simulate.specs.Owed.{Shaped, input_or, InputsFrom}

-- an input's number is below that of inputs
pub input_below : {c : List ℕ} {m n k : ℕ} → Shaped c m n → k < n → kind_at c k ≡ 0 → inputs_before c k < m
input_below {c} {m} {n} {k} w l e = omega (arith, count_below_lem (is_input c) k n l (eq-eqb _ _ e), w.inputs_are)

-- the inputs' lines below k are set, and i inputs stand there
pub record SoFar (c p : List ℕ) (n : ℕ) (vs : List ℕ) (k i : ℕ) : Type 0 where
  pub at_most : k ≤ n
  pub long : length vs ≡ n
  pub used : i ≡ inputs_before c k
  pub set_below_lem : (j : ℕ) → j < k → is_input c j ≡ true → get_or vs j 0 ≡ get_or p (inputs_before c j) 0

pub start : (c p vs : List ℕ) → SoFar c p (length vs) vs 0 0
unfolding count_below
start c p vs = record { at_most = omega arith; long = refl; used = refl; set_below_lem = λ j l. absurd (omega arith) }

module _ {c p : List ℕ} {n k i : ℕ} {vs : List ℕ} (so : SoFar c p n vs k i) where
  pub used_small : i ≤ n
  used_small = omega (arith, so.at_most, so.used, count_most k (is_input c))

  pub more : {v x : ℕ} → k < n → v ≡ input_or c p k i → x ≡ one (is_input c k) → SoFar c p n (set vs k v) (k + 1) (i + x)
  unfolding input_or
  more {v} {x} l e q = record {
    at_most = omega arith;
    long = length-set vs k v ∙ so.long;
    used = rw (add-one k, count_suc k (is_input c), ← so.used, q);
    set_below_lem = below_more (λ (j : ℕ). is_input c j ≡ true → get_or (set vs k v) j 0 ≡ get_or p (inputs_before c j) 0) k below here;
  }
    where
      below : (j : ℕ) → j < k → is_input c j ≡ true → get_or (set vs k v) j 0 ≡ get_or p (inputs_before c j) 0
      below j h y = get_or-set_other vs k j v 0 (λ z. omega arith) ∙ so.set_below_lem j h y

      here : is_input c k ≡ true → get_or (set vs k v) k 0 ≡ get_or p (inputs_before c k) 0
      here y = get_or-set_same vs k v 0 (omega (arith, so.long)) ∙ e ∙ rw (y, so.used)

  pub finished : n ≤ k → InputsFrom c p vs 0
  finished l j a b = so.set_below_lem j (omega (arith, so.long))
