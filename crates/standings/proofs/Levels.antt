-- What a fault meets at a node and then at its sides, it meets at the nodes from this one on.
-- Assumes nothing.
use mathlib.Core.Path.{◌≡◌, refl, sym, ap, ◌∙◌}
use mathlib.Core.Logic.{◌⊎◌, inl, inr}
use mathlib.Core.Bool.{Bool}
use mathlib.Core.List.{List, [], ◌∷◌, ◌++◌}
use Prim.Native.Nat.{ℕ, suc, ◌≤◌, ◌<◌}
use lib.ListN.{set}
use native.Mathlib.Decide.{ℕ_discrete}
use native.Mathlib.Omega.{arith}
use lib.Dec.{eqb}
use borrow.Author.Tests.{eq-eqb, ne_eqb, le-leb}
use Rattle.ground.specs.Choose.{choose}
use Rattle.ground.proofs.Tests.{either}
use Rattle.nodes.specs.Node.{Node, FirstX, count_x}
use Rattle.nodes.specs.Order.{Look, order, nodes}
use Rattle.nodes.proofs.Order.{nodes-known, nodes-unknown}
use Rattle.standings.specs.Owed.{past, outcome_by, Met, MetNode, MetBy}
use Rattle.standings.proofs.Past.{closed, past_append}

-- a reach as far as a level says that the search goes on
goes_on_lem : {level m : ℕ} → 3 ≤ level → level ≤ m → outcome_by m ≡ 1
goes_on_lem {level} {m} h e = rw (le-leb 3 m (omega arith))

module _ {look : Look} {b level : ℕ} {m k : ℕ} {t : List ℕ} where
  -- none below the level looks at any nodes
  pub met_none : {l : List Node} → m < level → Met look b level l m k t m k t
  met_none h = record { asleep = λ p. (refl, refl, refl); awake = λ p. absurd (omega arith); again = λ p. absurd (omega arith) }

  pub asleep_at : (alone : Bool) {s : Node} → m < level → MetBy alone look b level s m k t m k t
  asleep_at alone h = record {
    nodes_met = λ e. met_none h;
    node_met = λ e. record { met = met_none h; sides = λ p. absurd (omega arith); left = λ p. absurd (omega arith) };
  }

  -- the same nodes
  pub met_of : {l l2 : List Node} {m' k' : ℕ} {t' : List ℕ} → l ≡ l2 → Met look b level l m k t m' k' t' → Met look b level l2 m k t m' k' t'
  met_of e p = rw (← e) p

  -- a node without X has no sides
  pub met_last : {s : Node} {m' k' : ℕ} {t' : List ℕ} → count_x s ≡ 0 → MetNode look b level s m k t m' k' t' → Met look b level (nodes look s) m k t m' k' t'
  unfolding order
  met_last e p = rw e p.met

-- first the node, then its side 0, then its side 1: m1, m2 and m3 are the reaches after each
module _ {look : Look} {b level : ℕ} {s : Node} {l0 l1 : List Node} {m k : ℕ} {t : List ℕ} {m1 k1 : ℕ} {t1 : List ℕ} {m2 k2 : ℕ} {t2 : List ℕ} {m3 k3 : ℕ} {t3 : List ℕ}
    (levels : 3 ≤ level)
    (here : MetNode look b level s m k t m1 k1 t1)
    (side0 : Met look b (suc level) l0 m1 k1 t1 m2 k2 t2)
    (side1 : Met look b (suc level) l1 m2 k2 t2 m3 k3 t3) where
  -- where the level is as far as it goes, the sides are not looked at
  skipped : m1 ≤ level → (m3 ≡ m1) × (k3 ≡ k1) × (t3 ≡ t1)
  skipped h =
      let a = side0.asleep (omega arith) in
      let c = side1.asleep (omega (arith, a.0)) in
      (c.0 ∙ a.0, c.1 ∙ a.1, c.2 ∙ a.2)

  -- farther, they are, the second one if the first has not ended the search
  sides_met : level < m1 → (outcome_by m3, k3, t3) ≡ past look b (l0 ++ l1) (1, k1, t1)
  sides_met h = go (either level m2)
    where
      first : (outcome_by m2, k2, t2) ≡ past look b l0 (1, k1, t1)
      first = side0.awake (omega arith)

      go : (level < m2) ⊎ (m2 ≤ level) → (outcome_by m3, k3, t3) ≡ past look b (l0 ++ l1) (1, k1, t1)
      go (inl l) = side1.awake (omega arith) ∙ rw (past_append look b l0 l1 (1, k1, t1), ← first, goes_on_lem {m = m2} levels (omega arith))
      go (inr l) =
          let c = side1.asleep (omega arith) in
          let ended : outcome_by m2 ≡ 1 → ⊥ = λ p. absurd (omega (arith, side0.again (omega arith) p)) in
          rw (c.0, c.1, c.2, past_append look b l0 l1 (1, k1, t1), ← first) (sym (closed look b l1 (outcome_by m2) k2 t2 ended))

  rest : List Node
  rest = choose (eqb (look s) 2) (l0 ++ l1) []

  -- the standing after the node
  one : level ≤ m → (outcome_by m1, k1, t1) ≡ past look b (s ∷ []) (1, k, t)
  one h = here.met.awake h

  met_rest : level ≤ m → (outcome_by m3, k3, t3) ≡ past look b rest (outcome_by m1, k1, t1)
  unfolding past rest
  met_rest h = go (either level m1)
    where
      ended : m1 ≤ level → Dec (outcome_by m1 ≡ 1) → (outcome_by m1, k1, t1) ≡ past look b rest (outcome_by m1, k1, t1)
      ended l (yes e) = rw (ne_eqb (look s) 2 (here.left h e l))
      ended l (no d) = sym (closed look b rest (outcome_by m1) k1 t1 d)

      go : (level < m1) ⊎ (m1 ≤ level) → (outcome_by m3, k3, t3) ≡ past look b rest (outcome_by m1, k1, t1)
      go (inl l) = sides_met l ∙ rw (eq-eqb (look s) 2 (here.sides h l), goes_on_lem {m = m1} levels (omega arith))
      go (inr l) = let same = skipped l in rw (same.0, same.1, same.2) (ended l (ℕ_discrete (outcome_by m1) 1))

  looks_again : level ≤ m → outcome_by m3 ≡ 1 → level ≤ m3
  looks_again h e = go (either level m1) (either level m2)
    where
      go : (level < m1) ⊎ (m1 ≤ level) → (level < m2) ⊎ (m2 ≤ level) → level ≤ m3
      go (inl l) (inl i) = omega (arith, side1.again (omega arith) e)
      go (inl l) (inr i) =
          let same = side1.asleep (omega arith) in
          omega (arith, same.0, side0.again (omega arith) (ap outcome_by (sym same.0) ∙ e))
      go (inr l) _ = let same = skipped l in omega (arith, same.0, here.met.again h (ap outcome_by (sym same.0) ∙ e))

  pub met_sides : Met look b level (s ∷ choose (eqb (look s) 2) (l0 ++ l1) []) m k t m3 k3 t3
  unfolding rest
  met_sides = record {
    asleep = λ h. let a = here.met.asleep h in let same = skipped (omega (arith, a.0)) in (same.0 ∙ a.0, same.1 ∙ a.1, same.2 ∙ a.2);
    awake = λ h. met_rest h ∙ rw (one h) (sym (past_append look b (s ∷ []) rest (1, k, t)));
    again = looks_again;
  }

-- the same of a node whose first X stands at `at`
sides_are : (look : Look) (s : Node) (at : ℕ) → FirstX s at → s ∷ choose (eqb (look s) 2) (nodes look (set s at 0) ++ nodes look (set s at 1)) [] ≡ nodes look s
sides_are look s at first = go (ℕ_discrete (look s) 2)
  where
    go : Dec (look s ≡ 2) → s ∷ choose (eqb (look s) 2) (nodes look (set s at 0) ++ nodes look (set s at 1)) [] ≡ nodes look s
    go (yes e) = rw (eq-eqb (look s) 2 e) (sym (nodes-unknown look e first))
    go (no d) = rw (ne_eqb (look s) 2 d) (sym (nodes-known look s d))

pub met_nodes : {look : Look} {b level : ℕ} {s : Node} {at : ℕ} {m k : ℕ} {t : List ℕ} {m1 k1 : ℕ} {t1 : List ℕ} {m2 k2 : ℕ} {t2 : List ℕ} {m3 k3 : ℕ} {t3 : List ℕ}
    → 3 ≤ level
    → FirstX s at
    → MetNode look b level s m k t m1 k1 t1
    → Met look b (suc level) (nodes look (set s at 0)) m1 k1 t1 m2 k2 t2
    → Met look b (suc level) (nodes look (set s at 1)) m2 k2 t2 m3 k3 t3
    → Met look b level (nodes look s) m k t m3 k3 t3
met_nodes {look} {b} {level} {s} {at} levels first here side0 side1 = met_of (sides_are look s at first) (met_sides levels here side0 side1)
