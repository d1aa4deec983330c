-- What a search without a budget looks at from a node on: the node alone, or the node and its sides.
-- Assumes nothing.
use mathlib.Core.Path.{◌≡◌}
use mathlib.Core.Bool.{Bool, true, false, ◌||◌}
use mathlib.Core.List.{List, [], ◌∷◌, ◌++◌, append-nil}
use Prim.Native.Nat.{ℕ, ◌<◌}
use native.Mathlib.Omega.{arith}
use lib.ListN.{length, set}
use borrow.Author.Tests.{eq-eqb, ne_eqb}
use Rattle.ground.specs.Choose.{choose}
use Rattle.nodes.specs.Node.{Node, FirstX}
use Rattle.nodes.specs.Order.{Look, nodes, upto, trail, found, test_in, test_of}
use Rattle.nodes.proofs.Order.{nodes-known, nodes_cons, nodes-unknown, found_append, upto_append, test_append}

-- the nodes looked at from s on, whether one fails, and the first that does
pub record Trail (look : Look) (s : Node) (l : List Node) (fails : Bool) (test : Node) : Type 0 where
  pub looked : trail look s ≡ l
  pub fails-is : found look (nodes look s) ≡ fails
  pub test_is : test_of look s ≡ test

module _ (look : Look) (s : Node) where
  pub some_node : 0 < length (trail look s)
  unfolding upto
  some_node = rw (nodes_cons look s) (omega arith)

  pub fail-trail : look s ≡ 1 → Trail look s (s ∷ []) true s
  unfolding upto found test_in
  fail-trail e = record {
    looked = rw (nodes_cons look s) (simp (eq-eqb (look s) 1 e));
    fails-is = rw (nodes_cons look s) (simp (eq-eqb (look s) 1 e));
    test_is = rw (nodes_cons look s) (simp (eq-eqb (look s) 1 e));
  }

  pub left-trail : (look s ≡ 1 → ⊥) → (look s ≡ 2 → ⊥) → Trail look s (s ∷ []) false []
  unfolding upto found test_in
  left-trail n k = record {
    looked = rw (nodes-known look s k) (simp (ne_eqb (look s) 1 n));
    fails-is = rw (nodes-known look s k) (simp (ne_eqb (look s) 1 n));
    test_is = rw (nodes-known look s k) (simp (ne_eqb (look s) 1 n));
  }

-- the nodes of the side v of a node whose first X stands at `at`
abbrev pub side : Look → Node → ℕ → ℕ → List Node
side look s at v = nodes look (set s at v)

-- a node that says neither, and its sides 0 and 1
module _ (look : Look) (s : Node) (at : ℕ) (unknown : look s ≡ 2) (first : FirstX s at) where
  pub sides_trail :
      let side0 = side look s at 0 in
      let side1 = side look s at 1 in
      Trail look s
      (s ∷ (upto look side0 ++ choose (found look side0) [] (upto look side1)))
      (found look side0 || found look side1)
      (choose (found look side0) (test_in look side0) (test_in look side1))
  unfolding upto found test_in
  sides_trail =
      let n : look s ≡ 1 → ⊥ = λ e. omega arith in
      record {
        looked = rw (nodes-unknown look unknown first) (simp (ne_eqb (look s) 1 n, upto_append look (side look s at 1) (side look s at 0)));
        fails-is = rw (nodes-unknown look unknown first) (simp (ne_eqb (look s) 1 n, found_append look (side look s at 1) (side look s at 0)));
        test_is = rw (nodes-unknown look unknown first) (simp (ne_eqb (look s) 1 n, test_append look (side look s at 1) (side look s at 0)));
      }

  -- the first side has a test
  pub first_trail : found look (side look s at 0) ≡ true → Trail look s (s ∷ upto look (side look s at 0)) true (test_in look (side look s at 0))
  first_trail e = simp append-nil at (rw e at sides_trail)

  -- the first side has none
  pub second_trail :
      found look (side look s at 0) ≡ false
      → let side1 = side look s at 1 in
      Trail look s (s ∷ (upto look (side look s at 0) ++ upto look side1)) (found look side1) (test_in look side1)
  second_trail e = rw e at sides_trail
