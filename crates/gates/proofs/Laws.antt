-- The laws of the gates, each once over the kinds and over what the pins see.
-- Assumes nothing.
use mathlib.Core.Path.{◌≡◌, refl, sym, ap, ◌∙◌}
use mathlib.Core.Logic.{⊎_elim}
use mathlib.Core.Bool.{Bool, true, false, not, ◌&&◌, ◌||◌}
use Prim.Native.Nat.{ℕ, suc, ◌≤◌, ◌<◌}
use native.Mathlib.Omega.{arith}
use lib.Dec.{T, leb, eqb, leb→le, ltb→lt, eqb→eq}
use borrow.Author.Tests.{eq-eqb, ne_eqb, lt-leb, leb-true, leb-false}
use Rattle.ground.specs.Choose.{choose, one}
use Rattle.ground.proofs.Tests.{either, one_same}
use Rattle.gates.specs.Gate.{X, last_kind, selector, pins_of, three_of, gate_of, at_pins, Refines}
use Rattle.gates.specs.Boolean.{bool_gate}
use Rattle.gates.proofs.Values.{three_small, three_known, three_refines}
use Rattle.gates.proofs.Table.{other}
use Rattle.gates.proofs.Computed.{at_gates, small_test, small_all, unknown_test, at_unknown, sees_x, known_test, known-all, refines, pin_refines, refine_test, at_refined, bool_test, at_booleans}

-- at each pin that the kind has
abbrev pub AtPins : ℕ → (ℕ → Type 0) → Type 0
AtPins k P = (s : ℕ) → 1 ≤ s → s ≤ pins_of k → P s

-- no kind has more pins than a record has room for
pub few_pins : (kind : ℕ) → pins_of kind ≤ 3
unfolding pins_of
few_pins kind = go (eqb kind 0) (leb kind 2) (eqb kind selector)
  where
    go : (t u w : Bool) → choose t 0 (choose u 1 (choose w 3 2)) ≤ 3
    go true u w = omega arith
    go false true w = omega arith
    go false false true = omega arith
    go false false false = omega arith

-- and none but the selector has three
pub two_pins : (kind : ℕ) → (kind ≡ selector → ⊥) → pins_of kind ≤ 2
unfolding pins_of
two_pins kind ne = rw (ne_eqb kind selector ne) (go (eqb kind 0) (leb kind 2))
  where
    go : (t u : Bool) → choose t 0 (choose u 1 2) ≤ 2
    go true u = omega arith
    go false true = omega arith
    go false false = omega arith

-- a gate has a first pin
pub gate-pin : (kind : ℕ) → (kind ≡ 0 → ⊥) → 1 ≤ pins_of kind
unfolding pins_of
gate-pin kind ne = rw (ne_eqb kind 0 ne) (go (leb kind 2) (eqb kind selector))
  where
    go : (t u : Bool) → 1 ≤ choose t 1 (choose u 3 2)
    go true u = omega arith
    go false true = omega arith
    go false false = omega arith

-- a gate's value is 0, 1 or 2
pub gate_small : (k : ℕ) (v : ℕ → ℕ) → gate_of k v ≤ 2
unfolding small_test gate_of
gate_small k v =
    ⊎_elim
    (λ l. leb→le _ 2 (at_gates small_test small_all k _ _ _ l (three_small (v 1)) (three_small (v 2)) (three_small (v 3))))
    (λ l. omega (arith, other k v l))
    (either k (suc last_kind))

-- of two X's every kind makes X, a selector whatever its select sees
pub gate-unknown : (k c : ℕ) → gate_of k (at_pins X X c) ≡ X
unfolding unknown_test gate_of three_of
gate-unknown k c =
    ⊎_elim (λ l. eqb→eq _ _ (at_unknown k (three_of c) l (three_small c))) (other k (at_pins X X c)) (either k (suc last_kind))

-- known values at its pins give a known value
pub gate-known : (k : ℕ) (v : ℕ → ℕ) → 1 ≤ k → k ≤ last_kind → AtPins k (λ s. v s < 2) → gate_of k v < 2
unfolding known_test gate_of
gate-known k v some last h =
    ltb→lt _ 2
    (simp (ne_eqb k 0 (omega arith), sees 1 (omega arith), sees 2 (omega arith), sees 3 (omega arith)) at
    (at_gates known_test known-all k _ _ _ (omega arith) (three_small (v 1)) (three_small (v 2)) (three_small (v 3))))
  where
    sees : (s : ℕ) → 1 ≤ s → sees_x k s (three_of (v s)) ≡ false
    sees s l = go (leb s (pins_of k)) refl
      where
        go : (t : Bool) → leb s (pins_of k) ≡ t → (t && leb 2 (three_of (v s))) ≡ false
        go true e = lt-leb 2 (three_of (v s)) (three_known (v s) (h s l (leb-true s (pins_of k) e)))
        go false e = refl

refines_of : (x y : ℕ) → Refines x y → refines x y ≡ true
refines_of x y h = go (leb 2 x) refl
  where
    go : (t : Bool) → leb 2 x ≡ t → (t || eqb y x) ≡ true
    go true e = refl
    go false e = eq-eqb y x (h (leb-false 2 x e))

of_refines : (x y : ℕ) → T (refines x y) → Refines x y
of_refines x y t h = eqb→eq y x (simp (lt-leb 2 x h) at t)

-- where a gate's value is known, every refinement of what its pins see gives the same
pub gate_mono : (k : ℕ) (v w : ℕ → ℕ) → AtPins k (λ s. Refines (v s) (w s)) → Refines (gate_of k v) (gate_of k w)
unfolding refine_test gate_of
gate_mono k v w h =
    ⊎_elim
    (λ l. of_refines _ _
    (simp (pin 1 (omega arith), pin 2 (omega arith), pin 3 (omega arith)) at
    (at_refined k _ _ _ _ _ _ l (three_small (v 1)) (three_small (v 2)) (three_small (v 3)) (three_small (w 1)) (three_small (w 2)) (three_small (w 3)))))
    (λ l m. absurd (omega (arith, other k v l)))
    (either k (suc last_kind))
  where
    pin : (s : ℕ) → 1 ≤ s → pin_refines k s (three_of (v s)) (three_of (w s)) ≡ true
    pin s l = go (leb s (pins_of k)) refl
      where
        go : (t : Bool) → leb s (pins_of k) ≡ t → (not t || refines (three_of (v s)) (three_of (w s))) ≡ true
        go true e = refines_of _ _ (three_refines (v s) (w s) (h s l (leb-true s (pins_of k) e)))
        go false e = refl

-- a gate sees its own pins alone
pub gate_same : (k : ℕ) (v w : ℕ → ℕ) → AtPins k (λ s. v s ≡ w s) → gate_of k v ≡ gate_of k w
gate_same k v w h =
    ⊎_elim
    (λ l. sym (up l))
    (λ l. ⊎_elim (λ m. down m) (λ m. let a = gate_small k v in let b = gate_small k w in omega arith) (either (gate_of k w) 2))
    (either (gate_of k v) 2)
  where
    up : Refines (gate_of k v) (gate_of k w)
    up = gate_mono k v w (λ s l m _. sym (h s l m))

    down : Refines (gate_of k w) (gate_of k v)
    down = gate_mono k w v (λ s l m _. h s l m)

-- on known values a gate is the Boolean gate
pub gate_bool : (k : ℕ) (v : ℕ → Bool) → 1 ≤ k → k ≤ last_kind → gate_of k (λ s. one (v s)) ≡ one (bool_gate k v)
unfolding gate_of bool_gate bool_test
gate_bool k v some last = eqb→eq _ _ (simp (ne_eqb k 0 (omega arith)) at (at_booleans k (v 1) (v 2) (v 3) (omega arith)))

-- and sees its own pins alone
pub bool_same : (k : ℕ) (v w : ℕ → Bool) → 1 ≤ k → k ≤ last_kind → AtPins k (λ s. v s ≡ w s) → bool_gate k v ≡ bool_gate k w
bool_same k v w some last h =
    one_same (bool_gate k v) (bool_gate k w)
    (sym (gate_bool k v some last) ∙ gate_same k (λ s. one (v s)) (λ s. one (w s)) (λ s l m. ap one (h s l m)) ∙ gate_bool k w some last)
