-- Below the line of a fault the faulty circuit has the good values; above it a fault leaves the lines alone.
-- Assumes nothing.
use mathlib.Core.Path.{◌≡◌, refl, sym, ap, ◌∙◌}
use mathlib.Core.Bool.{Bool, true, false, ◌&&◌}
use mathlib.Core.List.{List}
use Prim.Native.Nat.{ℕ, ◌+◌, ◌≤◌, ◌<◌}
use native.Mathlib.Omega.{arith}
use lib.Dec.{eqb}
use lib.ListN.{length, get_or, set}
use borrow.Author.Tests.{eq-eqb, eqb-true}
use Rattle.ground.specs.Choose.{choose}
use Rattle.ground.proofs.Tests.{both}
use Rattle.ground.proofs.Grow.{grow-length, grow_at, grow_front, grow-same}
use Rattle.circuit.specs.Record.{kind_at, pin_at, is_input, inputs_before}
use Rattle.lists.specs.declared.Fault.{Fault}
use Rattle.gates.proofs.Laws.{gate_same}
use Rattle.simulate.specs.Simulate.{Forcing, unforced, stuck_at, gate_value, line_value, values_to}
use Rattle.simulate.specs.Work.{good_of, faulty_of}
use Rattle.simulate.specs.Owed.{Ordered, line_in, SimulatedTo, Leaves, Scope, SimulateDone, SimulateFaultDone, ForcedDone}
use Rattle.simulate.proofs.Settled.{line_agrees, settled-more, settled-all}

module _ (fault : Fault) where
  -- at its site a fault shows the stuck value
  pub stuck_site : (s v : ℕ) → s ≡ fault.site → stuck_at fault fault.line s v ≡ fault.value
  unfolding stuck_at
  stuck_site s v e = simp (eq-eqb fault.line fault.line refl, eq-eqb s fault.site e)

  -- everywhere else nothing is forced
  pub stuck_off : (k s v : ℕ) → (k ≡ fault.line → s ≡ fault.site → ⊥) → stuck_at fault k s v ≡ v
  unfolding stuck_at
  stuck_off k s v h = go (eqb k fault.line && eqb s fault.site) refl
    where
      go : (t : Bool) → (eqb k fault.line && eqb s fault.site) ≡ t → choose t fault.value v ≡ v
      go true e = let w = both (eqb k fault.line) _ e in absurd (h (eqb-true k _ w.0) (eqb-true s _ w.1))
      go false e = refl

  pub stuck-leaves : (end : ℕ) → Leaves (stuck_at fault) (fault.line + 1) end
  stuck-leaves end k s v h _ = stuck_off k s v (λ e _. omega arith)

-- ---- what is left alone has its good value

-- an input's line has its value in the pattern
input_value : (c p vs : List ℕ) (k : ℕ) → is_input c k ≡ true → line_value unforced c p vs k ≡ get_or p (inputs_before c k) 0
unfolding line_value
input_value c p vs k e = rw e

module _ (f : Forcing) (c p : List ℕ) where
  line-left : (vs : List ℕ) (k : ℕ) → ((s v : ℕ) → f k s v ≡ v) → line_value f c p vs k ≡ line_value unforced c p vs k
  unfolding line_value gate_value
  line-left vs k left =
      left 0 _
      ∙ ap (choose (is_input c k) (get_or p (inputs_before c k) 0)) (gate_same (kind_at c k) _ _ (λ s l m. left s (get_or vs (pin_at c k s) 0)))

  module _ (k : ℕ) (left : Leaves f 0 k) where
    pub left_below : values_to f c p k ≡ good_of c p k
    left_below =
        grow-same (line_value f c p) (line_value unforced c p) k (λ j l. line-left (good_of c p j) j (λ s v. left j s v (omega arith) l))

    -- so the good values are settled below the first line at which something is forced
    pub good-settled : (n : ℕ) → k ≤ n → SimulatedTo f c p (good_of c p n) k
    good-settled n h = record {
      done = grow_front (line_value unforced c p) k n h ∙ sym left_below;
      inputs = λ j a b e. good-input n j (omega (arith, grow-length (line_value unforced c p) n)) e;
    }
      where
        good-input : (n j : ℕ) → j < n → is_input c j ≡ true → get_or (good_of c p n) j 0 ≡ get_or p (inputs_before c j) 0
        good-input n j l e = grow_at (line_value unforced c p) 0 n j l ∙ input_value c p (good_of c p j) j e

module _ (fault : Fault) where
  stuck_below : (k : ℕ) → k ≤ fault.line → Leaves (stuck_at fault) 0 k
  stuck_below k h l s v _ m = stuck_off fault l s v (λ e _. omega arith)

  pub values_below : (c p : List ℕ) (k : ℕ) → k ≤ fault.line → faulty_of fault c p k ≡ good_of c p k
  values_below c p k h = left_below (stuck_at fault) c p k (stuck_below k h)

  -- ---- from the fault's line on

  -- with the fault's line and the lines above it simulated, they are as the fault makes them
  pub fault_simulated : {scope : Scope} {c vs vs' : List ℕ} {v end : ℕ}
      → Ordered c (length vs)
      → fault.line < length vs
      → ((f : Forcing) (p : List ℕ) → scope f p → ((s w : ℕ) → f fault.line s w ≡ stuck_at fault fault.line s w) → SimulatedTo f c p vs fault.line → v ≡ line_in (stuck_at fault) c vs fault.line)
      → SimulateDone scope c (set vs fault.line v) (fault.line + 1) end vs'
      → SimulateFaultDone scope fault c vs end vs'
  fault_simulated {c = c} {vs = vs} {v = v} o l e sim f p inside shows left so =
      let is : v ≡ line_in f c vs fault.line = e f p inside shows so ∙ sym (line_agrees f (stuck_at fault) c vs fault.line shows) in
      let after : SimulatedTo f c p (set vs fault.line v) (fault.line + 1) = rw is (settled-more (o.lower fault.line l) l so) in
      sim f p inside left after

  -- from good values on, these are the faulty ones
  pub makes_faulty : {scope : Scope} {c vs vs' : List ℕ} {n : ℕ}
      → length vs ≡ n
      → fault.line < n
      → length vs' ≡ length vs
      → SimulateFaultDone scope fault c vs n vs'
      → ForcedDone scope (stuck_at fault) c vs vs'
  makes_faulty {c = c} {vs = vs} {n = n} size l long sim p inside q =
      settled-all long
      (rw size
      (sim (stuck_at fault) p inside (λ s v. refl) (stuck-leaves fault n)
      (rw q (good-settled (stuck_at fault) c p fault.line (stuck_below fault.line (omega arith)) (length vs) (omega arith)))))
