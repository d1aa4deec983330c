-- The loop over the lines, as facts about lists: where it starts, one line more, and its end.
-- Assumes nothing.
use mathlib.Core.Path.{◌≡◌, refl, sym, ap, ◌∙◌}
use mathlib.Core.Logic.{⊎_elim}
use mathlib.Core.Bool.{Bool, true, false}
use mathlib.Core.List.{List}
use Prim.Native.Nat.{ℕ, suc, ◌+◌, ◌≤◌, ◌<◌}
use native.Mathlib.Numerals.{add-one}
use native.Mathlib.Omega.{arith}
use lib.ListN.{length, get_or, take, set, length-set}
use lib.Seq.{get_or-take, take-suc-set, take_all, get_or-set_other}
use borrow.Author.Tests.{eqb-false}
use Rattle.ground.specs.Choose.{choose}
use Rattle.ground.specs.Lists.{grow}
use Rattle.ground.proofs.Tests.{either}
use Rattle.gates.specs.Gate.{last_kind}
use Rattle.gates.proofs.Laws.{gate_same, few_pins}
use Rattle.gates.proofs.Table.{other}
use Rattle.circuit.specs.Record.{kind_at, pin_at, is_input, inputs_before}
use Rattle.circuit.specs.Formed.{Lower, WellFormed}
use Rattle.simulate.specs.Simulate.{Forcing, unforced, gate_value, line_value, values_to}
use Rattle.simulate.specs.Work.{good_of}
use Rattle.simulate.specs.Owed.{Ordered, Shaped, line_in, InputsFrom, SimulatedTo, Leaves, Scope, SimulateDone}

pub ordered : {c : List ℕ} {m n : ℕ} → WellFormed c m n → Ordered c n
ordered w = record {
  size = w.size;
  inside = λ k l ne s a b. omega (arith, w.lower k l ne s a b);
  lower = λ k l ne _. w.lower k l ne;
}

pub shaped : {c : List ℕ} {m n : ℕ} → WellFormed c m n → Shaped c m n
shaped w = record { ordered = ordered w; inputs_are = w.inputs_are }

-- a gate's value takes no notice of what stands at its place and above
gate-take : (f : Forcing) (c vs : List ℕ) (k : ℕ) → (kind_at c k ≤ last_kind → Lower c k) → gate_value f c vs k ≡ gate_value f c (take k vs) k
unfolding gate_value
gate-take f c vs k low =
    ⊎_elim
    (λ h. gate_same (kind_at c k) _ _ (λ s l m. ap (f k s) (sym (get_or-take k vs (pin_at c k s) 0 (low (omega arith) s l (omega (arith, few_pins (kind_at c k))))))))
    (λ h. other (kind_at c k) _ h ∙ sym (other (kind_at c k) _ h))
    (either (kind_at c k) (suc last_kind))

-- nor does a line's value: it is that of the definition, where the lines below it are settled
line-settled : {f : Forcing} {c p vs : List ℕ} {k : ℕ}
    → ((kind_at c k ≡ 0 → ⊥) → kind_at c k ≤ last_kind → Lower c k)
    → k < length vs
    → SimulatedTo f c p vs k
    → line_in f c vs k ≡ line_value f c p (values_to f c p k) k
unfolding line_in line_value
line-settled {f} {c} {p} {vs} {k} low l s = go (is_input c k) refl
  where
    go : (t : Bool)
        → is_input c k ≡ t
        → f k 0 (choose t (get_or vs k 0) (gate_value f c vs k)) ≡ f k 0 (choose t (get_or p (inputs_before c k) 0) (gate_value f c (values_to f c p k) k))
    go true e = rw (s.inputs k (omega arith) l e)
    go false e = rw (gate-take f c vs k (low (eqb-false (kind_at c k) 0 e)), s.done)

-- a line more
pub settled-more : {f : Forcing} {c p vs : List ℕ} {k : ℕ}
    → ((kind_at c k ≡ 0 → ⊥) → kind_at c k ≤ last_kind → Lower c k)
    → k < length vs
    → SimulatedTo f c p vs k
    → SimulatedTo f c p (set vs k (line_in f c vs k)) (k + 1)
unfolding grow
settled-more {f} {c} {p} {vs} {k} low l s = record {
  done = rw (add-one, take-suc-set vs k (line_in f c vs k) l, s.done, line-settled low l s);
  inputs = λ j a b e.
      get_or-set_other vs k j (line_in f c vs k) 0 (λ q. omega arith)
      ∙ s.inputs j (omega arith) (omega (arith, length-set vs k (line_in f c vs k))) e;
}

-- at a line count alone what is forced there
pub line_agrees : (f g : Forcing) (c vs : List ℕ) (k : ℕ) → ((s v : ℕ) → f k s v ≡ g k s v) → line_in f c vs k ≡ line_in g c vs k
unfolding line_in gate_value
line_agrees f g c vs k same =
    same 0 _
    ∙ ap (λ (v : ℕ). g k 0 (choose (is_input c k) (get_or vs k 0) v)) (gate_same (kind_at c k) _ _ (λ s l m. same s (get_or vs (pin_at c k s) 0)))

-- all lines are settled
pub settled-all : {f : Forcing} {c p vs : List ℕ} {n : ℕ} → length vs ≡ n → SimulatedTo f c p vs n → vs ≡ values_to f c p n
settled-all {vs = vs} {n = n} long s = sym (take_all n vs (omega arith)) ∙ s.done

-- ---- the loop

-- vs₀ at the start, vs when it comes to line k
pub record SoFar (scope : Scope) (c vs₀ : List ℕ) (start end : ℕ) (vs : List ℕ) (k : ℕ) : Type 0 where
  pub above : start ≤ k
  pub at_most : k ≤ end
  pub long : length vs ≡ length vs₀
  pub settled : (f : Forcing) (p : List ℕ) → scope f p → Leaves f start end → SimulatedTo f c p vs₀ start → SimulatedTo f c p vs k

pub start : (scope : Scope) (c vs : List ℕ) (k end : ℕ) → k ≤ end → SoFar scope c vs k end vs k
start scope c vs k end h = record { above = omega arith; at_most = h; long = refl; settled = λ f p _ _ s. s }

module _ {scope : Scope} {c vs₀ vs : List ℕ} {k start end : ℕ} (so : SoFar scope c vs₀ start end vs k) where
  -- v is the value of line k under whatever is in scope and leaves the line alone
  pub more : {v : ℕ}
      → Ordered c (length vs₀)
      → end ≤ length vs₀
      → k < end
      → ((f : Forcing) (p : List ℕ) → scope f p → SimulatedTo f c p vs k → ((s w : ℕ) → f k s w ≡ w) → v ≡ line_in unforced c vs k)
      → SoFar scope c vs₀ start end (set vs k v) (k + 1)
  more {v} o inside l e = record {
    above = omega (arith, so.above);
    at_most = omega arith;
    long = length-set vs k v ∙ so.long;
    settled = λ f p in_scope left s.
        let below = so.settled f p in_scope left s in
        let alone : (t w : ℕ) → f k t w ≡ w = λ t w. left k t w so.above l in
        rw (e f p in_scope below alone ∙ sym (line_agrees f unforced c vs k alone)) (settled-more (o.lower k (omega arith)) (omega (arith, so.long)) below);
  }

  pub finished : end ≤ k → SimulateDone scope c vs₀ start end vs
  finished l f p in_scope left s =
      let e : k ≡ end = omega (arith, so.at_most) in
      rw (← e) (so.settled f p in_scope left s)

-- with the inputs' lines set, all lines simulated have the good values
pub all-good : {scope : Scope} (c p : List ℕ) {vs vs' : List ℕ} {n : ℕ}
    → scope unforced p
    → length vs' ≡ n
    → InputsFrom c p vs 0
    → SimulateDone scope c vs 0 n vs'
    → vs' ≡ good_of c p n
unfolding grow
all-good c p inside long inputs simulated =
    settled-all long (simulated unforced p inside (λ l s v _ _. refl) (record { done = refl; inputs = inputs }))
