-- The sources of line m of step i: those that its kind has are lower lines, those that it lacks are 0.
-- Assumes nothing.
use mathlib.Core.Path.{◌≡◌}
use mathlib.Core.Logic.{⊎_elim}
use mathlib.Core.List.{List}
use Prim.Native.Nat.{ℕ, zero, suc, ◌+◌, ◌*◌, ◌-◌, ◌≤◌, ◌<◌}
use native.Mathlib.Nat.{suc-mul}
use native.Mathlib.Omega.{arith}
use Rattle.ground.proofs.Tests.{either}
use Rattle.gates.specs.Gate.{last_kind, pins_of}
use Rattle.gates.proofs.Laws.{few_pins}
use Rattle.circuit.specs.Record.{lines_of, kind_at, pin_at}
use Rattle.circuit.specs.Formed.{Good}
use Rattle.states.specs.Rules.{GoodSteps}
use Rattle.states.proofs.Records.{data_line_inside}
use Rattle.unfolded.specs.Unfolded.{step_kind, step_pin}
use Rattle.unfolded.proofs.Lines.{held-later, held_state, held_kind, held-pin, held-lacks, kept_kind, kept-pin, kept-lacks, line_cases}

-- an input has no pin
no_pin : (kind s : ℕ) → 1 ≤ s → s ≤ pins_of kind → kind ≡ 0 → ⊥
unfolding pins_of
no_pin kind s a b e = let z : pins_of kind ≡ 0 = rw e in omega arith

-- the step before
before : (i n d : ℕ) → 1 ≤ i → d < n → (i - 1) * n + d < i * n
before zero n d a l = absurd (omega arith)
before (suc i) n d a l = let e : suc i - 1 ≡ i = omega arith in rw (e, suc-mul) (omega arith)

module _ {c st : List ℕ} {k : ℕ} (good : Good c) (steps : GoodSteps c st k) (i m : ℕ) (l : m < lines_of c) where
  pub kind_small : step_kind c st i m ≤ last_kind
  kind_small =
      line_cases c st i m
      (λ held. rw (held_kind c st i m held) (omega arith))
      (λ kept. rw (kept_kind c st i m kept) (good.well.kinds m l))

  -- a source of the circuit
  pub source_below : (s : ℕ) → 1 ≤ s → s ≤ pins_of (kind_at c m) → pin_at c m s < m
  source_below s a b = good.well.lower m l (no_pin (kind_at c m) s a b) s a (omega (arith, few_pins (kind_at c m)))

  pub source_lower : (s : ℕ) → 1 ≤ s → s ≤ pins_of (step_kind c st i m) → step_pin c st i m s < i * lines_of c + m
  unfolding pins_of
  source_lower s a b =
      line_cases c st i m
      (λ held.
      let only : s ≡ 1 = omega (arith, rw (held_kind c st i m held) at b) in
      let lower = before i (lines_of c) _ (held-later c st i m held) (data_line_inside steps m (held_state c st i m held)) in
      rw (only, held-pin c st i m held) (omega arith))
      (λ kept. let has : s ≤ pins_of (kind_at c m) = rw (kept_kind c st i m kept) at b in rw (kept-pin c st i m kept s has) (omega (arith, source_below s a has)))

  pub source_lacks : (s : ℕ) → pins_of (step_kind c st i m) < s → step_pin c st i m s ≡ 0
  unfolding pins_of
  source_lacks s h =
      line_cases c st i m
      (λ held. held-lacks c st i m held s (rw (held_kind c st i m held) at h))
      (λ kept. kept-lacks c st i m kept s (rw (kept_kind c st i m kept) at h))

  -- so each is the number of a line
  pub source_most : (s : ℕ) → 1 ≤ s → step_pin c st i m s ≤ i * lines_of c + m
  source_most s a =
      ⊎_elim (λ h. omega (arith, source_lacks s h)) (λ h. omega (arith, source_lower s a h)) (either (pins_of (step_kind c st i m)) s)
