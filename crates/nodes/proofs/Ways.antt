-- What a search from a node on does on each of its ways, said of the definitions: one law for each answer.
-- Assumes nothing.
use mathlib.Core.Path.{◌≡◌, refl, sym, ap, ◌∙◌, subst}
use mathlib.Core.Bool.{Bool}
use mathlib.Core.List.{List, ◌∷◌, ◌++◌}
use Prim.Native.Nat.{ℕ, ◌+◌, ◌-◌, ◌≤◌, ◌<◌}
use native.Mathlib.Omega.{arith}
use lib.ListN.{length, set, length-append}
use lib.Seq.{take-nil}
use Rattle.nodes.specs.declared.Verdict.{Verdict}
use Rattle.nodes.specs.declared.Verdict.TheVariants.{Test, Redundant, GivenUp}
use Rattle.nodes.specs.Node.{Node, FirstX}
use Rattle.nodes.specs.Order.{Look, nodes, upto, trail, found, test_in, test_of, last_or}
use Rattle.nodes.specs.Budget.{nodes_of, memory_in, memory_of, test_by}
use Rattle.nodes.specs.Owed.{NodeLeft, SideDone}
use Rattle.nodes.proofs.Verdicts.{VerdictCounted, VerdictSays, says, said, within}
use Rattle.nodes.proofs.Memory.{leaves, leaves_none, leaves-next, leaves_first, leaves_second}
use Rattle.nodes.proofs.Trail.{Trail, some_node, fail-trail, left-trail, side, sides_trail, first_trail, second_trail}

-- the memory is that of the first node, and then of those after it
memory_next : (look : Look) (after : Node → List ℕ) (b : ℕ) (w : List ℕ) (s : Node) {l : List Node} → 0 < b → trail look s ≡ s ∷ l → memory_of look after b w s ≡ leaves after (b - 1) (after s) l
unfolding memory_in
memory_next look after b w s {l} some e = ap (leaves after b w) e ∙ leaves-next after b w s l some

test_by_lem : (look : Look) (s s' : Node) (r : Verdict) (t : List ℕ) → NodeLeft look s s' r → test_by r t s' ≡ test_by r t (test_of look s)
test_by_lem look s s' (Test k) t e = e
test_by_lem look s s' (Redundant k) t e = refl
test_by_lem look s s' (GivenUp k) t e = refl

module _ {look : Look} {after : Node → List ℕ} {b : ℕ} {s : Node} {w : List ℕ} {r : Verdict} {s' : Node} {w' : List ℕ} (f : SideDone look after b s w r s' w') where
  told : VerdictSays look b (nodes look s) r
  told = says look b (nodes look s) f.verdict

  -- the same from an equal node
  pub from_node : {s2 : Node} → s ≡ s2 → SideDone look after b s2 w r s' w'
  from_node e = subst (λ (n : Node). SideDone look after b n w r s' w') e f

  -- where there is a test, it is what is left of the node
  pub left_test : (t : List ℕ) → test_by r t s' ≡ test_by r t (test_of look s)
  left_test t = test_by_lem look s s' r t f.node

  -- the count is within the budget
  pub fits : nodes_of r ≤ b
  fits = within look b (nodes look s) r told

-- ---- the budget is spent

pub spent : {look : Look} {after : Node → List ℕ} {s : Node} {w : List ℕ} → SideDone look after 0 s w (GivenUp 0) s w
unfolding memory_in
spent {look} {after} {s} {w} = record {
  verdict = said look 0 (nodes look s) (GivenUp 0) (record { all = refl; more = some_node look s });
  memory = sym (leaves_none after w (trail look s));
  node = tt;
}

-- ---- at a node that fails, or is left

module _ {look : Look} {after : Node → List ℕ} {b : ℕ} {s : Node} {w w' : List ℕ} (some : 0 < b) (m : w' ≡ after s) where
  pub failed : look s ≡ 1 → SideDone look after b s w (Test 1) s w'
  unfolding last_or
  failed e =
      let t = fail-trail look s e in
      record {
        verdict = said look b (nodes look s) (Test 1) (record { most = some; fails-is = t.fails-is; count = sym (ap length t.looked) });
        memory = m ∙ sym (memory_next look after b w s some t.looked ∙ rw (take-nil {A = Node} (b - 1)));
        node = sym t.test_is;
      }

  pub passed : (look s ≡ 1 → ⊥) → (look s ≡ 2 → ⊥) → SideDone look after b s w (Redundant 1) s w'
  unfolding last_or
  passed n k =
      let t = left-trail look s n k in
      record {
        verdict = said look b (nodes look s) (Redundant 1) (record { most = some; fails-is = t.fails-is; count = sym (ap length t.looked) });
        memory = m ∙ sym (memory_next look after b w s some t.looked ∙ rw (take-nil {A = Node} (b - 1)));
        node = refl;
      }

-- ---- at a node that says neither

-- the budget b is not spent, and the first X of s stands at `at`
pub record Open (look : Look) (b : ℕ) (s : Node) (at : ℕ) : Type 0 where
  pub more : 0 < b
  pub unknown : look s ≡ 2
  pub first : FirstX s at

module _ {look : Look} {after : Node → List ℕ} {b : ℕ} {s : Node} {w : List ℕ} {at m : ℕ} {s0 : Node} {w0 : List ℕ} (o : Open look b s at) where
  pub first_test : SideDone look after (b - 1) (set s at 0) (after s) (Test m) s0 w0 → SideDone look after b s w (Test (1 + m)) s0 w0
  unfolding memory_in
  first_test f =
      let p = told f in
      let t = first_trail look s at o.unknown o.first p.fails-is in
      record {
        verdict =
            said look b (nodes look s) (Test (1 + m))
            (record { most = omega (arith, p.most, o.more); fails-is = t.fails-is; count = omega (arith, p.count, ap length t.looked) });
        memory = f.memory ∙ sym (memory_next look after b w s o.more t.looked);
        node = f.node ∙ sym t.test_is;
      }

  pub first_spent : SideDone look after (b - 1) (set s at 0) (after s) (GivenUp m) s0 w0 → SideDone look after b s w (GivenUp b) s0 w0
  unfolding memory_in
  first_spent f =
      let p = told f in
      let t = sides_trail look s at o.unknown o.first in
      record {
        verdict = said look b (nodes look s) (GivenUp b) (record { all = refl; more = omega (arith, p.more, simp length-append at (ap length t.looked)) });
        memory = f.memory ∙ sym (memory_next look after b w s o.more t.looked ∙ leaves_first after (b - 1) (after s) _ _ (omega (arith, p.more)));
        node = tt;
      }

-- the first side has no test, in m nodes: what follows is the second side
module _ {look : Look} {after : Node → List ℕ} {b : ℕ} {s : Node} {at m : ℕ} {s0 : Node} {w0 : List ℕ}
    (o : Open look b s at) (f : SideDone look after (b - 1) (set s at 0) (after s) (Redundant m) s0 w0) where
  both : let side1 = side look s at 1 in Trail look s (s ∷ (upto look (side look s at 0) ++ upto look side1)) (found look side1) (test_in look side1)
  both = second_trail look s at o.unknown o.first (told f).fails-is

  both-length : length (trail look s) ≡ 1 + m + length (upto look (side look s at 1))
  both-length = omega (arith, (told f).count, simp length-append at (ap length both.looked))

  -- the count of the second side is within what is left of the budget, so the whole count is within the budget
  both_counted : {fails : Bool} {k : ℕ} → VerdictCounted look (b - 1 - m) (side look s at 1) fails k → VerdictCounted look b (nodes look s) fails (1 + m + k)
  both_counted p = record {
    most = omega (arith, p.most, fits f, o.more);
    fails-is = both.fails-is ∙ p.fails-is;
    count = omega (arith, p.count, both-length);
  }

  both_memory : (w : List ℕ) → memory_of look after b w s ≡ memory_of look after (b - 1 - m) w0 (set s at 1)
  unfolding memory_in
  both_memory w =
      let p = told f in
      memory_next look after b w s o.more both.looked
      ∙ leaves_second after (b - 1) (after s) (upto look (side look s at 0)) (upto look (side look s at 1)) (omega (arith, p.most, p.count))
      ∙ rw (← p.count, ← f.memory)

  module _ {w : List ℕ} {k : ℕ} {s1 : Node} {w1 : List ℕ} where
    pub second_test : SideDone look after (b - 1 - m) (set s at 1) w0 (Test k) s1 w1 → SideDone look after b s w (Test (1 + m + k)) s1 w1
    second_test g = record {
      verdict = said look b (nodes look s) (Test (1 + m + k)) (both_counted (told g));
      memory = g.memory ∙ sym (both_memory w);
      node = g.node ∙ sym both.test_is;
    }

    pub second_none : {s' : Node} → s' ≡ s → SideDone look after (b - 1 - m) (set s at 1) w0 (Redundant k) s1 w1 → SideDone look after b s w (Redundant (1 + m + k)) s' w1
    second_none same g = record {
      verdict = said look b (nodes look s) (Redundant (1 + m + k)) (both_counted (told g));
      memory = g.memory ∙ sym (both_memory w);
      node = same;
    }

    pub second_spent : SideDone look after (b - 1 - m) (set s at 1) w0 (GivenUp k) s1 w1 → SideDone look after b s w (GivenUp b) s1 w1
    second_spent g = record {
      verdict = said look b (nodes look s) (GivenUp b) (record { all = refl; more = omega (arith, (told g).more, fits f, o.more, both-length) });
      memory = g.memory ∙ sym (both_memory w);
      node = tt;
    }
