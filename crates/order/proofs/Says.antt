-- Refusal 16 says what its words do; what the order is where it is not given, and which gate it names where it is.
-- Assumes nothing.
use mathlib.Core.Path.{◌≡◌, refl, sym, ◌∙◌}
use mathlib.Core.Logic.{inl, ⊎_elim}
use mathlib.Core.Bool.{Bool, true, false, false≢true}
use mathlib.Core.List.{List}
use Prim.Native.Nat.{ℕ, ◌≤◌, ◌<◌}
use native.Mathlib.Omega.{arith}
use lib.ListN.{length, get_or, take}
use Rattle.ground.specs.Lists.{elem, index_in}
use Rattle.ground.proofs.Tests.{either}
use Rattle.answers.specs.Rules.{refusal, Applies, AllHold, Same, AllSay}
use Rattle.answers.proofs.Rules.{applies, refused, all_hold}
use Rattle.order.specs.Order.{order_of, Order, Places, Source, cycle_rules}
use Rattle.order.proofs.Gates.{order_full, gate_inside, sources_placed, gate_index}
use Rattle.order.proofs.Unique.{order_placed, placed_in}
use Rattle.std.specs.Prelude.{Ok, Err}
use Rattle.answers.specs.declared.Reason.{Reason}
use Rattle.answers.specs.declared.Reason.TheVariants.{BenchCycle}

-- refused for the reason m at gate k: 16, and k is the first gate that can't be placed
pub record LowestLeft (a b : List ℕ) (m : Reason) (k : ℕ) : Type 0 where
  pub reason : m ≡ BenchCycle
  pub inside : k < length a
  pub left : Places a b k → ⊥
  pub first : (j : ℕ) → j < k → Places a b j

module _ (a b : List ℕ) where
  steps : Order a b (order_of a b)
  steps = (order_placed a b).steps

  pub gate_says : (g : ℕ) → Same (elem (order_of a b) g) (Places a b g)
  gate_says g = record {
    holds = λ e. record { order = order_of a b; steps = steps; placed = e };
    tests = λ p. placed_in p.steps g p.placed;
  }

  pub cycle_says : AllSay (cycle_rules a b)
  unfolding AllSay cycle_rules
  cycle_says = (λ g l. gate_says g, tt)

  -- ---- the gate at position i

  pub order_inside : (i : ℕ) → i < length (order_of a b) → get_or (order_of a b) i 0 < length a
  order_inside i l = gate_inside steps i l

  -- the gates that are its sources stand before it
  pub sources_before : (i s : ℕ) → i < length (order_of a b) → Source a b (get_or (order_of a b) i 0) s → elem (take i (order_of a b)) s ≡ true
  sources_before i s l r = sources_placed steps i l s r

  -- and it stands there alone
  pub order_index : (i : ℕ) → i < length (order_of a b) → index_in (order_of a b) (get_or (order_of a b) i 0) ≡ i
  order_index i l = gate_index steps i l

  -- ---- where nothing is refused

  module _ (e : refusal (cycle_rules a b) ≡ Ok tt) where
    pub all_placed : (g : ℕ) → g < length a → elem (order_of a b) g ≡ true
    unfolding AllHold cycle_rules
    all_placed g l = (gate_says g).tests ((all_hold (cycle_rules a b) cycle_says e).0 g l)

    pub full_order : length (order_of a b) ≡ length a
    full_order = order_full steps all_placed

  -- ---- where something is

  pub refused_left : {m : Reason} {k : ℕ} → refusal (cycle_rules a b) ≡ Err (m, k) → LowestLeft a b m k
  unfolding Applies cycle_rules
  refused_left {m} {k} e =
      ⊎_elim
      (λ w. record {
        reason = w.0;
        inside = w.1.0;
        left = w.1.1;
        first = λ j l. (gate_says j).holds (placed j l w.1.0 w.2 (elem (order_of a b) j) refl);
      })
      (λ w. absurd w.1)
      (applies (cycle_rules a b) cycle_says m k e)
    where
      placed : (j : ℕ) → j < k → k < length a → ((i : ℕ) → (i < length a) × (Places a b i → ⊥) → k ≤ i) → (t : Bool) → elem (order_of a b) j ≡ t → t ≡ true
      placed j l h low true q = refl
      placed j l h low false q =
          absurd (omega (arith, low j (omega arith, λ p. false≢true (sym q ∙ (gate_says j).tests p))))

  -- and the first gate that is left is refused
  pub left_refused : {k : ℕ} → LowestLeft a b BenchCycle k → refusal (cycle_rules a b) ≡ Err (BenchCycle, k)
  unfolding Applies cycle_rules
  left_refused {k} w =
      refused (cycle_rules a b) cycle_says BenchCycle k
      (inl (refl, (w.inside, w.left), λ j (l, n). ⊎_elim (λ h. absurd (n (w.first j h))) (λ h. h) (either j k)))
