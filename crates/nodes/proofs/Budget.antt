-- What document 01 says of budgets, for whatever a node says: when a search gives up, what budget is enough, what a larger one changes; and the last node.
-- Assumes nothing.
use mathlib.Core.Path.{◌≡◌, refl, sym, ap, ◌∙◌}
use mathlib.Core.Logic.{◌↔◌}
use mathlib.Core.Bool.{Bool, true, false}
use mathlib.Core.List.{List, [], ◌∷◌, ◌++◌}
use Prim.Native.Nat.{ℕ, zero, suc, ◌+◌, ◌-◌, ◌^◌, ◌≤◌, ◌<◌}
use native.Mathlib.Nat.{pow-suc}
use native.Mathlib.Omega.{arith}
use lib.Dec.{eqb}
use lib.Pow.{pow_mono, pow_pos}
use lib.ListN.{length, get_or, length-append}
use Rattle.ground.specs.Choose.{choose}
use Rattle.nodes.specs.declared.Verdict.{Verdict}
use Rattle.nodes.specs.declared.Verdict.TheVariants.{Test, Redundant, GivenUp}
use Rattle.nodes.specs.Node.{Node, start, count_x, fill}
use Rattle.nodes.specs.Order.{Look, order, nodes, upto, trail}
use Rattle.nodes.specs.Budget.{verdict_of, Decided, memory_in, memory_of}
use Rattle.nodes.proofs.Node.{all_x}
use Rattle.nodes.proofs.Verdicts.{counted_more, says, said}
use Rattle.nodes.proofs.Memory.{leaves_none, leaves_all, leaves_node}
use Rattle.nodes.proofs.Trail.{some_node}

module _ (look : Look) (s : Node) where
  -- it gives up exactly if the search without a budget would look at more than b nodes; the count is then b
  pub gives_up : (b k : ℕ) → (verdict_of look b s ≡ GivenUp k) ↔ ((k ≡ b) × (b < length (trail look s)))
  gives_up b k = (λ e. let p = says look b (nodes look s) (sym e) in (p.all, p.more), λ p. sym (said look b (nodes look s) (GivenUp k) (record { all = p.0; more = p.1 })))

  -- a larger budget never changes a verdict
  pub larger : (b b' : ℕ) → b ≤ b' → Decided (verdict_of look b s) → verdict_of look b' s ≡ verdict_of look b s
  larger b b' h d = go (verdict_of look b s) refl d
    where
      go : (r : Verdict) → r ≡ verdict_of look b s → Decided r → verdict_of look b' s ≡ r
      go (Test k) e d = sym (said look b' (nodes look s) (Test k) (counted_more h (says look b (nodes look s) e)))
      go (Redundant k) e d = sym (said look b' (nodes look s) (Redundant k) (counted_more h (says look b (nodes look s) e)))
      go (GivenUp k) e d = absurd d

  -- a budget of as many nodes as the search without one looks at is enough
  pub decided : (b : ℕ) → length (trail look s) ≤ b → Decided (verdict_of look b s)
  decided b h = go (verdict_of look b s) refl
    where
      go : (r : Verdict) → r ≡ verdict_of look b s → Decided r
      go (Test k) e = tt
      go (Redundant k) e = tt
      go (GivenUp k) e = let p = says look b (nodes look s) e in absurd (omega (arith, p.more))

-- ---- 2 ^ (n + 1) - 1 nodes are enough

module _ (look : Look) where
  order-length : (k : ℕ) (s : Node) → length (order look k s) < 2 ^ suc k
  unfolding order
  order-length zero s = omega (arith, pow-suc 2 0)
  order-length (suc k) s = go (eqb (look s) 2) (order look k (fill 0 s)) (order look k (fill 1 s)) (order-length k (fill 0 s)) (order-length k (fill 1 s))
    where
      go : (t : Bool) (l m : List Node) → length l < 2 ^ suc k → length m < 2 ^ suc k → suc (length (choose t (l ++ m) [])) < 2 ^ suc (suc k)
      go true l m p q = omega (arith, length-append l m, pow-suc 2 (suc k))
      go false l m p q = omega (arith, pow-suc 2 (suc k), pow-suc 2 k, pow_pos k)

  upto-length : (l : List Node) → length (upto look l) ≤ length l
  unfolding upto
  upto-length [] = omega arith
  upto-length (s ∷ l) = go (eqb (look s) 1) (upto-length l)
    where
      go : (t : Bool) → length (upto look l) ≤ length l → suc (length (choose t [] (upto look l))) ≤ suc (length l)
      go true h = omega arith
      go false h = omega arith

  pub trail-length : (n : ℕ) → length (trail look (start n)) ≤ 2 ^ (n + 1) - 1
  trail-length n =
      let p = order-length (count_x (start n)) (start n) in
      let q : 2 ^ suc (count_x (start n)) ≡ 2 ^ (n + 1) = ap (λ (k : ℕ). 2 ^ k) (omega (arith, all_x n)) in
      omega (arith, upto-length (nodes look (start n)))

  -- for n up to 63 it is a budget, and always brings a verdict
  pub enough : (n : ℕ) → n ≤ 63 → (2 ^ (n + 1) - 1 < 2 ^ 64) × Decided (verdict_of look (2 ^ (n + 1) - 1) (start n))
  enough n h = (fits, decided look (start n) (2 ^ (n + 1) - 1) (trail-length n))
    where
      fits : 2 ^ (n + 1) - 1 < 2 ^ 64
      fits = let m : 2 ^ (n + 1) ≤ 2 ^ 64 = pow_mono {i = n + 1} {j = 64} (omega arith) in omega (arith, pow_pos (n + 1))

-- ---- the work memory

module _ (look : Look) (after : Node → List ℕ) (w : List ℕ) (s : Node) where
  -- with budget 0 it is untouched
  pub untouched : memory_of look after 0 w s ≡ w
  unfolding memory_in
  untouched = leaves_none after w (trail look s)

  -- given up, it is that of the b-th node
  pub of_b_th : (b : ℕ) → 0 < b → b ≤ length (trail look s) → memory_of look after b w s ≡ after (get_or (trail look s) (b - 1) [])
  unfolding memory_in
  of_b_th b p h = leaves_node after b w (trail look s) p h

  -- otherwise that of the last
  pub of_last : (b : ℕ) → 0 < b → length (trail look s) ≤ b → memory_of look after b w s ≡ after (get_or (trail look s) (length (trail look s) - 1) [])
  unfolding memory_in
  of_last b p h =
      leaves_all after b w (trail look s) h
      ∙ leaves_node after (length (trail look s)) w (trail look s) (some_node look s) (omega arith)
