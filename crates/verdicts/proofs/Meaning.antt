-- What the verdicts mean for complete vectors, where a node says what it says of its fillings.
-- Assumes nothing.
use mathlib.Core.Path.{◌≡◌, refl, sym}
use mathlib.Core.Logic.{◌↔◌}
use mathlib.Core.Bool.{Bool, true, false}
use mathlib.Core.List.{List}
use Prim.Native.Nat.{ℕ, ◌≤◌}
use native.Mathlib.Omega.{arith}
use lib.ListN.{length, set}
use Rattle.simulate.specs.Boolean.{Vector}
use Rattle.simulate.specs.Vectors.{Fills}
use Rattle.nodes.specs.declared.Verdict.TheVariants.{Test, Redundant}
use Rattle.nodes.specs.Node.{Node, IsNode, start}
use Rattle.nodes.specs.Order.{Look, nodes, trail, found, test_of}
use Rattle.nodes.specs.Budget.{verdict_of}
use Rattle.nodes.specs.Walk.{tested, finished, Walk, fail, leave, first, second}
use Rattle.nodes.proofs.Node.{start_is, set_is}
use Rattle.nodes.proofs.Verdicts.{says, said}
use Rattle.nodes.proofs.Walk.{walks}
use Rattle.verdicts.specs.Meaning.{FaithfulLook}
use Rattle.verdicts.proofs.Fillings.{fills_side, fills_start, filling, filling_fills}

-- ---- what a walk says

-- the test is a node that fails
pub fails : {look : Look} {s t : Node} {l : List Node} {n : ℕ} → Walk look s l (tested t) → IsNode n s → IsNode n t × (look t ≡ 1)
fails (fail e) i = (i, e)
fails (first {x = at} e f w) i = fails w (set_is at 0 (omega arith) i)
fails (second {x = at} e f w v) i = fails v (set_is at 1 (omega arith) i)

module _ {n : ℕ} {look : Look} {Detected : Vector → Type 0} (M : FaithfulLook n look Detected) where
  -- where there is none, no filling detects
  pub none : {s : Node} {l : List Node} → Walk look s l finished → IsNode n s → (x : Vector) → Fills s x → Detected x → ⊥
  none (leave {s = s} e) i x f = M.left s i e x f
  none (second {s = s} {x = at} e f w v) i x g =
      go (x at) refl (λ f d. none w (set_is at 0 (omega arith) i) x f d) (λ f d. none v (set_is at 1 (omega arith) i) x f d)
    where
      go : (t : Bool) → x at ≡ t → (Fills (set s at 0) x → Detected x → ⊥) → (Fills (set s at 1) x → Detected x → ⊥) → Detected x → ⊥
      go false q p r = p (fills_side s at x 0 (rw q) g)
      go true q p r = r (fills_side s at x 1 (rw q) g)

  -- ---- the search from the start on, which has its n X's

  S : Node
  S = start n

  finishes : found look (nodes look S) ≡ false → (x : Vector) → Detected x → ⊥
  unfolding S
  finishes q x d = none (rw q at (walks M.looks S (start_is n))) (start_is n) x (fills_start n x) d

  ends : found look (nodes look S) ≡ true → (x : Vector) → Fills (test_of look S) x → Detected x
  unfolding S
  ends q x f =
      let t = fails (rw q at (walks M.looks S (start_is n))) (start_is n) in
      M.fail (test_of look S) t.0 t.1 x f

  -- a test comes only with a pattern all of whose fillings detect
  pub test_detects : (b k : ℕ) → verdict_of look b (start n) ≡ Test k → (x : Vector) → Fills (test_of look (start n)) x → Detected x
  unfolding S
  test_detects b k e = ends (says look b (nodes look S) (sym e)).fails-is

  -- redundant exactly if no vector detects: where the search is not given up
  pub redundant_exactly : (b k : ℕ) → (verdict_of look b (start n) ≡ Redundant k) ↔ (((x : Vector) → Detected x → ⊥) × (k ≡ length (trail look (start n))) × (k ≤ b))
  unfolding S
  redundant_exactly b k = (
    λ e. let p = says look b (nodes look S) (sym e) in (finishes p.fails-is, p.count, p.most),
    λ p. sym (said look b (nodes look S) (Redundant k) (record { most = p.2; fails-is = go (found look (nodes look S)) refl p.0; count = p.1 })),
  )
    where
      go : (t : Bool) → found look (nodes look S) ≡ t → ((x : Vector) → Detected x → ⊥) → t ≡ false
      go true q h = absurd (h (filling (test_of look S)) (ends q (filling (test_of look S)) (filling_fills (test_of look S))))
      go false q h = refl

  -- a test exactly if some vector detects
  pub test_exactly : (b k : ℕ) → (verdict_of look b (start n) ≡ Test k) ↔ (((x : Vector) × Detected x) × (k ≡ length (trail look (start n))) × (k ≤ b))
  unfolding S
  test_exactly b k = (
    λ e. let p = says look b (nodes look S) (sym e) in ((filling (test_of look S), ends p.fails-is (filling (test_of look S)) (filling_fills (test_of look S))), p.count, p.most),
    λ p. sym (said look b (nodes look S) (Test k) (record { most = p.2; fails-is = go (found look (nodes look S)) refl p.0; count = p.1 })),
  )
    where
      go : (t : Bool) → found look (nodes look S) ≡ t → ((x : Vector) × Detected x) → t ≡ true
      go true q h = refl
      go false q h = absurd (finishes q h.0 h.1)
