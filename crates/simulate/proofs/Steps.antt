-- Steps of so many lines: where something forced in each of them is seen, and the loop that goes from the fault's line in one step to its line in the next.
-- Assumes nothing.
use mathlib.Core.Path.{◌≡◌, refl, sym, ap, ◌∙◌}
use mathlib.Core.Logic.{⊎_elim}
use mathlib.Core.List.{List}
use Prim.Native.Nat.{ℕ, suc, ◌+◌, ◌*◌, ◌-◌, ◌≤◌, ◌<◌, ◌/◌, ◌%◌, min}
use native.Mathlib.Nat.{div-add-mod, mul-le-mul_left, mul-suc, mod-eq_of_lt, add-mod_right}
use native.Mathlib.Omega.{arith}
use lib.ListN.{length}
use borrow.Author.Tests.{eq-eqb}
use Rattle.ground.proofs.Tests.{either}
use Rattle.ground.proofs.Grow.{grow-same}
use Rattle.lists.specs.declared.Fault.{Fault}
use Rattle.simulate.specs.Simulate.{Forcing, stuck_at, in_steps, stuck_in_steps, line_value, gate_value, values_to}
use Rattle.simulate.specs.Boolean.{Truths, truths_in_steps}
use Rattle.simulate.specs.Work.{good_of}
use Rattle.simulate.specs.Owed.{SimulatedTo, Leaves, Keeps, Scope, ThreeValued, EndInside, StepsReady, SimulateFaultDone, ForcedDone}
use Rattle.simulate.proofs.Mono.{Monotone}
use Rattle.simulate.proofs.Alike.{Alike}
use Rattle.simulate.proofs.Settled.{settled-all}
use Rattle.simulate.proofs.Below.{stuck_off, good-settled}

-- a forcing keeps what it keeps, in steps too
pub steps_keep : (b step : ℕ) (f : Forcing) → Keeps b f → Keeps b (in_steps step f)
unfolding in_steps
steps_keep b step f keeps k s x h = keeps (k % step) s x h

pub steps_three : (step : ℕ) (f : Forcing) {p : List ℕ} → ThreeValued f p → ThreeValued (in_steps step f) p
steps_three step f three = record { keeps = steps_keep 3 step f three.keeps; pattern = three.pattern }

pub steps_mono : (step : ℕ) (f : Forcing) → Monotone f → Monotone (in_steps step f)
unfolding in_steps
steps_mono step f mono k s x y h = mono (k % step) s x y h

-- and truths that do the same do so in steps
pub steps_alike : (step : ℕ) (f : Forcing) (t : Truths) → Alike f t → Alike (in_steps step f) (truths_in_steps step t)
unfolding in_steps truths_in_steps
steps_alike step f t alike k s b = alike (k % step) s b

-- where all lines make one step, it is forced as it was
pub one_step : (f : Forcing) (c p : List ℕ) (n : ℕ) → values_to (in_steps n f) c p n ≡ values_to f c p n
unfolding in_steps line_value gate_value
one_step f c p n = grow-same _ _ n (λ k l. rw (mod-eq_of_lt {n = k} {m = n} l))

-- a line fewer than a step further on stands at another place of its step
apart : (a d step : ℕ) → 0 < d → d < step → (a + d) % step ≡ a % step → ⊥
apart a d step some few e =
    let x = div-add-mod (a + d) step in
    let y = div-add-mod a step in
    ⊎_elim
    (λ (l : (a + d) / step < suc (a / step)). let m : step * ((a + d) / step) ≤ step * (a / step) = mul-le-mul_left step (omega arith) in omega arith)
    (λ (l : suc (a / step) ≤ (a + d) / step).
    let m : step * suc (a / step) ≤ step * ((a + d) / step) = mul-le-mul_left step l in omega (arith, mul-suc step (a / step)))
    (either ((a + d) / step) (suc (a / step)))

module _ (fault : Fault) (step : ℕ) where
  -- the fault as it stands on another line
  abbrev pub on_line : ℕ → Fault
  on_line line = record { line = line; site = fault.site; value = fault.value }

  abbrev in_all : Forcing
  in_all = stuck_in_steps step fault

  off : (l s v : ℕ) → (l % step ≡ fault.line → ⊥) → in_all l s v ≡ v
  unfolding in_steps
  off l s v h = stuck_off fault (l % step) s v (λ e _. h e)

  -- at its place in a step it shows what it shows
  shows : (line : ℕ) → line % step ≡ fault.line → (s v : ℕ) → in_all line s v ≡ stuck_at (on_line line) line s v
  unfolding in_steps stuck_at
  shows line e s v = rw (eq-eqb (line % step) fault.line e, eq-eqb line line refl)

  leaves : (line end : ℕ) → line % step ≡ fault.line → end ≤ line + step → Leaves in_all (line + 1) end
  leaves line end e h l s v a b =
      off l s v (λ q. let at : l ≡ line + (l - line) = omega arith in
      apart line (l - line) step (omega arith) (omega arith) (ap (λ (x : ℕ). x % step) (sym at) ∙ q ∙ sym e))

  pub below : fault.line < step → Leaves in_all 0 fault.line
  below h l s v _ b = off l s v (λ q. omega (arith, mod-eq_of_lt {n = l} {m = step} (omega arith)))

  -- the next end lies behind the line
  pub after_line : {line lines end : ℕ} → end ≡ min (line + step) lines → 0 < step → line < lines → EndInside (on_line line) lines end
  after_line small some l = record { at_most = omega arith; line = omega arith }

  -- ---- the loop: vs₀ at the start, vs when it comes to the fault's line in some step, or to the end

  abbrev Settled : Scope → List ℕ → List ℕ → List ℕ → ℕ → Type 0
  Settled scope c vs₀ vs end = (p : List ℕ) → scope in_all p → vs₀ ≡ good_of c p (length vs₀) → SimulatedTo in_all c p vs end

  pub record SoFar (scope : Scope) (c vs₀ vs : List ℕ) (line : ℕ) : Type 0 where
    pub on : line % step ≡ fault.line
    pub long : length vs ≡ length vs₀
    pub here : line ≤ length vs₀ → Settled scope c vs₀ vs line
    pub over : length vs₀ ≤ line → Settled scope c vs₀ vs (length vs₀)

  pub start : (scope : Scope) (c vs : List ℕ) → StepsReady fault step (length vs) → SoFar scope c vs vs fault.line
  start scope c vs r = record {
    on = mod-eq_of_lt r.line;
    long = refl;
    here = λ l p _ q. rw q (good-settled in_all c p fault.line (below r.line) (length vs) l);
    over = λ l. absurd (omega (arith, r.line, r.inside));
  }

  module _ {scope : Scope} {c vs₀ vs : List ℕ} {line : ℕ} (so : SoFar scope c vs₀ vs line) where
    pub more : {vs' : List ℕ} {end : ℕ}
        → line < length vs₀
        → end ≡ min (line + step) (length vs₀)
        → length vs' ≡ length vs
        → SimulateFaultDone scope (on_line line) c vs end vs'
        → SoFar scope c vs₀ vs' (line + step)
    more {vs'} {end} l small same sim = record {
      on = add-mod_right line step ∙ so.on;
      long = same ∙ so.long;
      here = λ h p inside q. let e : end ≡ line + step = omega arith in rw (← e) (settled p inside q);
      over = λ h p inside q. let e : end ≡ length vs₀ = omega arith in rw (← e) (settled p inside q);
    }
      where
        settled : Settled scope c vs₀ vs' end
        settled p inside q = sim in_all p inside (shows line so.on) (leaves line end so.on (omega arith)) (so.here (omega arith) p inside q)

    pub finished : length vs₀ ≤ line → ForcedDone scope in_all c vs₀ vs
    finished l p inside q = settled-all so.long (so.over l p inside q)
