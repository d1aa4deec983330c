-- Where the pattern has no other values than 0, 1 and X, and a forcing brings none, every line's value is one of them.
-- Assumes nothing.
use mathlib.Core.Path.{◌≡◌, sym, ap, ◌∙◌}
use mathlib.Core.Logic.{⊎_elim}
use mathlib.Core.Bool.{Bool, true, false}
use mathlib.Core.List.{List}
use Prim.Native.Nat.{ℕ, ◌+◌, ◌≤◌, ◌<◌}
use native.Mathlib.Omega.{arith}
use lib.ListN.{length, get_or, take, drop, length-take, get_or-eq_default}
use lib.Seq.{get_or-take, get_or-drop}
use Rattle.ground.specs.Choose.{choose}
use Rattle.ground.proofs.Tests.{either}
use Rattle.ground.proofs.Grow.{grow_each}
use Rattle.gates.specs.Gate.{last_kind}
use Rattle.gates.proofs.Laws.{gate_small}
use Rattle.circuit.specs.Record.{kind_at, pin_at, is_input, inputs_before}
use Rattle.circuit.specs.Formed.{Lower}
use Rattle.simulate.specs.Simulate.{Forcing, gate_value, line_value, values_to}
use Rattle.simulate.specs.Owed.{AllSmall, PinsSmall, SimulatedTo, ThreeValued}

-- ---- lists of such values

-- it is enough to look at the places that a list has: beyond them there is a 0
pub all_small : (vs : List ℕ) → ((i : ℕ) → i < length vs → get_or vs i 0 ≤ 2) → AllSmall vs
all_small vs h i = ⊎_elim (h i) (λ l. omega (arith, get_or-eq_default vs 0 l)) (either i (length vs))

pub part_small : (vs : List ℕ) (w at : ℕ) → AllSmall vs → AllSmall (take w (drop at vs))
part_small vs w at small = all_small (take w (drop at vs)) (λ i l. rw (get_or-take w (drop at vs) i 0 (omega (arith, length-take w (drop at vs), l)), get_or-drop at vs i 0) (small (at + i)))

-- ---- the values of the lines

module _ {f : Forcing} {p : List ℕ} (small : ThreeValued f p) (c : List ℕ) where
  line_small : (vs : List ℕ) (k : ℕ) → line_value f c p vs k < 3
  unfolding line_value gate_value
  line_small vs k = small.keeps k 0 _ (go (is_input c k))
    where
      go : (t : Bool) → choose t (get_or p (inputs_before c k) 0) (gate_value f c vs k) < 3
      go true = omega (arith, small.pattern (inputs_before c k))
      go false = omega (arith, gate_small (kind_at c k) (λ s. f k s (get_or vs (pin_at c k s) 0)))

  pub values_small : (n k : ℕ) → get_or (values_to f c p n) k 0 < 3
  values_small n = grow_each (λ v. v < 3) 0 (omega arith) (line_value f c p) n (λ k _ _. line_small (values_to f c p k) k)

  -- so what the pins of a line see, once the lines below it are settled
  module _ {vs : List ℕ} {k : ℕ} (low : (kind_at c k ≡ 0 → ⊥) → kind_at c k ≤ last_kind → Lower c k) (so : SimulatedTo f c p vs k) where
    pub pins_small : PinsSmall f c vs k
    pins_small ne kind = (sees 1 (omega arith) (omega arith), sees 2 (omega arith) (omega arith))
      where
        below : (j : ℕ) → j < k → get_or vs j 0 < 3
        below j l = rw (sym (get_or-take k vs j 0 l) ∙ ap (λ (x : List ℕ). get_or x j 0) so.done) (values_small k j)

        sees : (s : ℕ) → 1 ≤ s → s ≤ 3 → f k s (get_or vs (pin_at c k s) 0) ≤ 2
        sees s a b = omega (arith, small.keeps k s _ (below (pin_at c k s) (low ne kind s a b)))

    -- and under another forcing that shows the same there
    pub agreed_small : (g : Forcing) → ((s v : ℕ) → f k s v ≡ g k s v) → PinsSmall g c vs k
    agreed_small g same ne kind =
        let sees = pins_small ne kind in (
          rw (← same 1 (get_or vs (pin_at c k 1) 0)) sees.0,
          rw (← same 2 (get_or vs (pin_at c k 2) 0)) sees.1,
        )
