-- What stands on line m of step i: from the second step on a state line is a buffer of its data line one step earlier; every other line is the circuit's,
-- with the sources that its kind has moved to its step.
-- Assumes nothing.
use mathlib.Core.Path.{◌≡◌, refl}
use mathlib.Core.Bool.{Bool, true, false}
use mathlib.Core.List.{List}
use Prim.Native.Nat.{ℕ, ◌+◌, ◌*◌, ◌-◌, ◌≤◌, ◌<◌}
use native.Mathlib.Omega.{arith}
use lib.Dec.{leb}
use borrow.Author.Tests.{ne_eqb, le-leb, lt-leb, leb-true}
use Rattle.ground.proofs.Tests.{both}
use Rattle.gates.specs.Gate.{pins_of}
use Rattle.circuit.specs.Record.{lines_of, kind_at, pin_at}
use Rattle.states.specs.States.{is_state, data_of}
use Rattle.unfolded.specs.Unfolded.{buffer, holds, step_kind, step_pin}

module _ (c st : List ℕ) (i m : ℕ) where
  -- ---- a state line of a later step

  module _ (held : holds st i m ≡ true) where
    pub held-later : 1 ≤ i
    held-later = leb-true 1 i (both (leb 1 i) (is_state st m) held).0

    pub held_state : is_state st m ≡ true
    held_state = (both (leb 1 i) (is_state st m) held).1

    pub held_kind : step_kind c st i m ≡ buffer
    unfolding step_kind
    held_kind = rw held

    pub held-pin : step_pin c st i m 1 ≡ (i - 1) * lines_of c + data_of st m
    unfolding step_pin
    held-pin = rw held

    pub held-lacks : (s : ℕ) → 1 < s → step_pin c st i m s ≡ 0
    unfolding step_pin
    held-lacks s l = rw (held, ne_eqb s 1 (λ e. omega arith))

  -- ---- every other line

  module _ (kept : holds st i m ≡ false) where
    pub kept_kind : step_kind c st i m ≡ kind_at c m
    unfolding step_kind
    kept_kind = rw kept

    pub kept-pin : (s : ℕ) → s ≤ pins_of (kind_at c m) → step_pin c st i m s ≡ i * lines_of c + pin_at c m s
    unfolding step_pin
    kept-pin s l = rw (kept, le-leb s (pins_of (kind_at c m)) l)

    pub kept-lacks : (s : ℕ) → pins_of (kind_at c m) < s → step_pin c st i m s ≡ 0
    unfolding step_pin
    kept-lacks s l = rw (kept, lt-leb s (pins_of (kind_at c m)) l)

  -- ---- one of the two

  pub line_cases : {A : Type 0} → (holds st i m ≡ true → A) → (holds st i m ≡ false → A) → A
  line_cases a b = go (holds st i m) a b
    where
      go : {A : Type 0} (t : Bool) → (t ≡ true → A) → (t ≡ false → A) → A
      go true a b = a refl
      go false a b = b refl
