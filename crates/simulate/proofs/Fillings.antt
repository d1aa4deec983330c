-- What is known of a line under a pattern is its truth under every filling of the pattern's X's, in the good circuit and in the faulty one: whatever the bytes
-- of the circuit, if the pattern has a value for each input. A line whose kind has no rule is never known.
-- Assumes nothing.
use mathlib.Core.Path.{◌≡◌, refl}
use mathlib.Core.Logic.{⊎_elim}
use mathlib.Core.Bool.{Bool, true, false}
use mathlib.Core.List.{List}
use Prim.Native.Nat.{ℕ, suc, ◌≤◌, ◌<◌}
use native.Mathlib.Omega.{arith}
use lib.ListN.{length, get_or}
use borrow.Author.Tests.{eqb-false}
use Rattle.ground.specs.Choose.{choose, one}
use Rattle.ground.proofs.Tests.{either}
use Rattle.ground.proofs.Counting.{count_below_lem}
use Rattle.ground.proofs.Grow.{grow_related}
use Rattle.gates.specs.Gate.{last_kind, Refines}
use Rattle.gates.proofs.Table.{other}
use Rattle.gates.proofs.Laws.{gate_mono, gate_bool}
use Rattle.circuit.specs.Record.{kind_at, pin_at, is_input, inputs_before}
use Rattle.lists.specs.declared.Fault.{Fault}
use Rattle.simulate.specs.Simulate.{Forcing, unforced, stuck_at, gate_value, line_value, values_to}
use Rattle.simulate.specs.Boolean.{Vector, Truths, good, faulty, gate_truth, line_truth, truths_to, truth_at}
use Rattle.simulate.specs.Vectors.{Fills}
use Rattle.simulate.specs.Work.{good_of, faulty_of}
use Rattle.simulate.proofs.Mono.{Monotone, unforced_mono, stuck_mono}
use Rattle.simulate.proofs.Alike.{Alike, good_alike, faulty_alike}

module _ (c p : List ℕ) (n : ℕ) (inputs : inputs_before c n ≡ length p) (x : Vector) (fills : Fills p x) where
  module _ (f : Forcing) (t : Truths) (mono : Monotone f) (alike : Alike f t) where
    -- what is known is so
    abbrev So : List ℕ → List Bool → Type 0
    So vs ts = (i : ℕ) → Refines (get_or vs i 0) (one (get_or ts i false))

    force : (k s v : ℕ) (b : Bool) → Refines v (one b) → Refines (f k s v) (one (t k s b))
    force k s v b h = rw (← alike k s b) (mono k s v (one b) h)

    gate_so : (vs : List ℕ) (ts : List Bool) → So vs ts → (k : ℕ) → (kind_at c k ≡ 0 → ⊥) → Refines (gate_value f c vs k) (one (gate_truth t c ts k))
    unfolding gate_value gate_truth
    gate_so vs ts so k ne =
        ⊎_elim
        (λ l. rw (← gate_bool (kind_at c k) (λ s. t k s (get_or ts (pin_at c k s) false)) (omega arith) (omega arith))
        (gate_mono (kind_at c k) _ _ (λ s _ _. force k s _ _ (so (pin_at c k s)))))
        (λ l known. absurd (omega (arith, other (kind_at c k) (λ s. f k s (get_or vs (pin_at c k s) 0)) l)))
        (either (kind_at c k) (suc last_kind))

    line_so : (vs : List ℕ) (ts : List Bool) → So vs ts → (k : ℕ) → k < n → Refines (line_value f c p vs k) (one (line_truth t c x ts k))
    unfolding line_value line_truth
    line_so vs ts so k l = force k 0 _ _ (go (is_input c k) refl)
      where
        go : (b : Bool) → is_input c k ≡ b → Refines (choose b (get_or p (inputs_before c k) 0) (gate_value f c vs k)) (one (choose b (x (inputs_before c k)) (gate_truth t c ts k)))
        go true e = fills (inputs_before c k) (omega (arith, count_below_lem (is_input c) k n l e))
        go false e = gate_so vs ts so k (eqb-false (kind_at c k) 0 e)

    pub truth : (k : ℕ) → Refines (get_or (values_to f c p n) k 0) (one (truth_at t c x n k))
    truth =
        grow_related (λ v b. Refines v (one b)) 0 false (λ _. refl) (line_value f c p) (line_truth t c x) n
        (λ k l so. line_so (values_to f c p k) (truths_to t c x k) so k l)

  pub good-truth : (k : ℕ) → Refines (get_or (good_of c p n) k 0) (one (truth_at good c x n k))
  good-truth = truth unforced good unforced_mono good_alike

  pub faulty-truth : (k : ℕ) (fault : Fault) → fault.value ≤ 1 → Refines (get_or (faulty_of fault c p n) k 0) (one (truth_at (faulty fault) c x n k))
  faulty-truth k fault small = truth (stuck_at fault) (faulty fault) (stuck_mono fault) (faulty_alike fault small) k
