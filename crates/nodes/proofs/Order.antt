-- The nodes from a node on, and one list of nodes after another.
-- Assumes nothing.
use mathlib.Core.Path.{◌≡◌, refl, sym, ap}
use mathlib.Core.Bool.{Bool, true, false, ◌||◌, false≢true}
use mathlib.Core.List.{List, [], ◌∷◌, ◌++◌}
use Prim.Native.Nat.{ℕ, zero, suc}
use native.Mathlib.Omega.{arith}
use lib.Dec.{eqb}
use lib.ListN.{drop, set}
use borrow.Author.Tests.{eq-eqb, ne_eqb}
use Rattle.ground.specs.Choose.{choose}
use Rattle.nodes.specs.Node.{Node, count_x, fill, FirstX}
use Rattle.nodes.specs.Order.{Look, order, nodes, upto, found, test_in, last_or}
use Rattle.nodes.proofs.Node.{x_is_first, some_x, one_fewer}

module _ (look : Look) where
  -- ---- the nodes from s on

  pub nodes-known : (s : Node) → (look s ≡ 2 → ⊥) → nodes look s ≡ s ∷ []
  unfolding order
  nodes-known s n = go (count_x s)
    where
      go : (k : ℕ) → order look k s ≡ s ∷ []
      go zero = refl
      go (suc k) = simp (ne_eqb (look s) 2 n)

  pub nodes_cons : (s : Node) → nodes look s ≡ s ∷ drop 1 (nodes look s)
  unfolding order
  nodes_cons s = go (count_x s)
    where
      go : (k : ℕ) → order look k s ≡ s ∷ drop 1 (order look k s)
      go zero = refl
      go (suc k) = refl

  pub nodes-unknown : {s : Node} {at : ℕ} → look s ≡ 2 → FirstX s at → nodes look s ≡ s ∷ (nodes look (set s at 0) ++ nodes look (set s at 1))
  unfolding order fill
  nodes-unknown {s} {at} e f = go (count_x s) refl
    where
      go : (k : ℕ) → count_x s ≡ k → order look k s ≡ s ∷ (nodes look (set s at 0) ++ nodes look (set s at 1))
      go zero p = absurd (omega (arith, some_x f))
      go (suc k) p =
          let p0 : count_x (set s at 0) ≡ k = omega (arith, one_fewer {v = 0} (omega arith) f) in
          let p1 : count_x (set s at 1) ≡ k = omega (arith, one_fewer {v = 1} (omega arith) f) in
          simp (eq-eqb (look s) 2 e, sym (x_is_first f), p0, p1)

  -- ---- a list of nodes after another: the second counts where none of the first fails

  module _ (m : List Node) where
    pub found_append : (l : List Node) → found look (l ++ m) ≡ (found look l || found look m)
    unfolding found
    found_append [] = refl
    found_append (s ∷ l) = go (eqb (look s) 1) (found_append l)
      where
        go : (t : Bool) → found look (l ++ m) ≡ (found look l || found look m) → choose t true (found look (l ++ m)) ≡ (choose t true (found look l) || found look m)
        go true ih = refl
        go false ih = ih

    pub upto_append : (l : List Node) → upto look (l ++ m) ≡ upto look l ++ choose (found look l) [] (upto look m)
    unfolding upto found
    upto_append [] = refl
    upto_append (s ∷ l) = go (eqb (look s) 1) (upto_append l)
      where
        go : (t : Bool)
            → upto look (l ++ m) ≡ upto look l ++ choose (found look l) [] (upto look m)
            → s ∷ choose t [] (upto look (l ++ m)) ≡ s ∷ (choose t [] (upto look l) ++ choose (choose t true (found look l)) [] (upto look m))
        go true ih = refl
        go false ih = ap (λ (r : List Node). s ∷ r) ih

    pub test_append : (l : List Node) → test_in look (l ++ m) ≡ choose (found look l) (test_in look l) (test_in look m)
    unfolding test_in found
    test_append [] = refl
    test_append (s ∷ l) = go (eqb (look s) 1) (test_append l)
      where
        go : (t : Bool)
            → test_in look (l ++ m) ≡ choose (found look l) (test_in look l) (test_in look m)
            → choose t s (test_in look (l ++ m)) ≡ choose (choose t true (found look l)) (choose t s (test_in look l)) (test_in look m)
        go true ih = refl
        go false ih = ih

  -- ---- the test is the last node looked at

  pub test_is_last : (d : Node) (l : List Node) → found look l ≡ true → last_or d (upto look l) ≡ test_in look l
  unfolding found test_in upto last_or
  test_is_last d [] h = absurd (false≢true h)
  test_is_last d (s ∷ l) h = go (eqb (look s) 1) (test_is_last s l) h
    where
      go : (t : Bool) → (found look l ≡ true → last_or s (upto look l) ≡ test_in look l) → choose t true (found look l) ≡ true → last_or s (choose t [] (upto look l)) ≡ choose t s (test_in look l)
      go true ih h = refl
      go false ih h = ih h
