-- What a fault that looks at a node leaves with: one law for each way.
-- Assumes nothing.
use mathlib.Core.Path.{◌≡◌, refl, sym}
use mathlib.Core.Bool.{Bool}
use mathlib.Core.List.{List, [], ◌∷◌}
use Prim.Native.Nat.{ℕ, ◌+◌, ◌-◌, ◌≤◌, ◌<◌}
use native.Mathlib.Omega.{arith}
use lib.ListN.{drop}
use borrow.Author.Tests.{eq-eqb, ne_eqb, le-leb, lt-leb}
use Rattle.nodes.specs.declared.Verdict.{Verdict}
use Rattle.nodes.specs.declared.Verdict.TheVariants.{Test, Redundant, GivenUp}
use Rattle.nodes.specs.Node.{Node}
use Rattle.nodes.specs.Order.{Look, nodes, test_of}
use Rattle.nodes.specs.Budget.{verdict_of, nodes_of, test_by}
use Rattle.nodes.proofs.Order.{nodes_cons}
use Rattle.standings.specs.Outcome.{outcome_of}
use Rattle.standings.specs.Owed.{past, outcome_by, reach_by, Met, MetNode, MetBy}
use Rattle.standings.proofs.Past.{counted, closed}
use Rattle.standings.proofs.Ends.{from}
use Rattle.standings.proofs.Levels.{met_of}

module _ {look : Look} {b level : ℕ} {s : Node} {m k : ℕ} {t : List ℕ} (levels : 3 ≤ level) (looks : level ≤ m) where
  -- the budget is spent
  spent_at : (l : List Node) → b ≤ k → Met look b level (s ∷ l) m k t 2 k t
  unfolding past
  spent_at l h = record {
    asleep = λ p. absurd (omega arith);
    awake = λ p. rw (le-leb b k h) (sym (closed look b l 2 k t (λ e. absurd (omega (arith, e)))));
    again = λ p e. absurd (omega (arith, e));
  }

  pub met_spent : (alone : Bool) → b ≤ k → MetBy alone look b level s m k t 2 k t
  met_spent alone h = record {
    nodes_met = λ q. met_of (sym (nodes_cons look s)) (spent_at (drop 1 (nodes look s)) h);
    node_met = λ q. record { met = spent_at [] h; sides = λ p l. absurd (omega arith); left = λ p e. absurd (omega (arith, e)) };
  }

  module _ (more : k < b) where
    -- the node is a test
    pub met_test : look s ≡ 1 → MetNode look b level s m k t 0 (k + 1) s
    unfolding past
    met_test e = record {
      met = record {
        asleep = λ p. absurd (omega arith);
        awake = λ p. rw (lt-leb b k more, eq-eqb _ 1 e) (counted 0 s (omega arith));
        again = λ p q. absurd (omega (arith, q));
      };
      sides = λ p l. absurd (omega arith);
      left = λ p q. absurd (omega (arith, q));
    }

    -- it is none, and the reach is above the level exactly if the node says neither
    pub met_open : {m' : ℕ} → (look s ≡ 1 → ⊥) → level ≤ m' → (level < m' → look s ≡ 2) → (m' ≤ level → look s ≡ 2 → ⊥) → MetNode look b level s m k t m' (k + 1) t
    unfolding past
    met_open {m'} d l sides left = record {
      met = record {
        asleep = λ p. absurd (omega arith);
        awake = λ p. rw (lt-leb b k more, ne_eqb _ 1 d, le-leb 3 m' (omega arith)) (counted 1 t (omega arith));
        again = λ p q. l;
      };
      sides = λ p. sides;
      left = λ p q. left;
    }

-- alone, through the nodes from s on
pub met_alone : {look : Look} {b level : ℕ} (s : Node) {m k : ℕ} {t : List ℕ} {r : Verdict} {t' : List ℕ}
    → 3 ≤ level
    → level ≤ m
    → k < b
    → r ≡ verdict_of look (b - k) s
    → t' ≡ test_by r t (test_of look s)
    → Met look b level (nodes look s) m k t (reach_by level r) (k + nodes_of r) t'
met_alone {look} {b} {level} s {m} {k} {t} {r} levels looks more e test = record {
  asleep = λ p. absurd (omega arith);
  awake = λ p. rw (test, outcome r) (rw e (sym (from look b (b - k) k (nodes look s) t (omega arith))));
  again = λ p. again r;
}
  where
    outcome : (v : Verdict) → outcome_by (reach_by level v) ≡ outcome_of v
    outcome (Test j) = refl
    outcome (Redundant j) = rw (le-leb 3 level levels)
    outcome (GivenUp j) = refl

    again : (v : Verdict) → outcome_by (reach_by level v) ≡ 1 → level ≤ reach_by level v
    again (Test j) q = absurd (omega (arith, q))
    again (Redundant j) q = omega arith
    again (GivenUp j) q = absurd (omega (arith, q))
