-- The search in the paper's words and the search that is computed are the same.
-- Assumes nothing.
use mathlib.Core.Path.{◌≡◌, refl, sym, ap, ◌∙◌}
use mathlib.Core.Logic.{⊎_elim}
use mathlib.Core.Bool.{Bool, true, false}
use mathlib.Core.List.{List, ◌∷◌}
use Prim.Native.Nat.{ℕ, zero, suc, ◌≤◌, ◌<◌}
use native.Mathlib.Decide.{ℕ_discrete}
use native.Mathlib.Omega.{arith}
use lib.ListN.{length, set}
use Rattle.ground.proofs.Tests.{either}
use Rattle.nodes.specs.declared.Verdict.{Verdict}
use Rattle.nodes.specs.declared.Verdict.TheVariants.{Test, Redundant, GivenUp}
use Rattle.nodes.specs.Node.{Node, IsNode, count_x, first_x, FirstX}
use Rattle.nodes.specs.Order.{Look, nodes, upto, trail, found, test_in, test_of}
use Rattle.nodes.specs.Budget.{verdict_of}
use Rattle.nodes.specs.Walk.{Looks, Ending, tested, finished, Walk, fail, leave, first, second, verdict_by, Answers}
use Rattle.nodes.proofs.Node.{first_x_lem, some_x, one_fewer, set_is}
use Rattle.nodes.proofs.Verdicts.{said}
use Rattle.nodes.proofs.Trail.{Trail, fail-trail, left-trail, side, first_trail, second_trail}

-- how the computed search ends
abbrev pub ending_of : Bool → Node → Ending
ending_of true t = tested t
ending_of false t = finished

abbrev pub ending : Look → Node → Ending
ending look s = ending_of (found look (nodes look s)) (test_of look s)

-- ---- the computed search is one in the paper's words

along : {look : Look} {s : Node} {l : List Node} {fails : Bool} {test : Node} → Trail look s l fails test → Walk look s l (ending_of fails test) → Walk look s (trail look s) (ending look s)
along t w = rw (t.looked, t.fails-is, t.test_is) w

module _ {n : ℕ} {look : Look} (L : Looks n look) where
  -- at a node, where it is so on both sides
  step : (s : Node)
      → IsNode n s
      → ((v at : ℕ) → v ≤ 1 → FirstX s at → Walk look (set s at v) (trail look (set s at v)) (ending look (set s at v)))
      → Walk look s (trail look s) (ending look s)
  step s i sides = go (ℕ_discrete (look s) 1) (ℕ_discrete (look s) 2)
    where
      open-node : look s ≡ 2 → FirstX s (first_x s) → Walk look s (trail look s) (ending look s)
      open-node e f = side-cases (found look (side look s (first_x s) 0)) refl (sides 0 (first_x s) (omega arith) f)
        where
          side-cases : (t : Bool)
              → found look (side look s (first_x s) 0) ≡ t
              → Walk look (set s (first_x s) 0) (upto look (side look s (first_x s) 0)) (ending_of (found look (side look s (first_x s) 0)) (test_in look (side look s (first_x s) 0)))
              → Walk look s (trail look s) (ending look s)
          side-cases true q w = along (first_trail look s (first_x s) e f q) (first e f (rw q at w))
          side-cases false q w = along (second_trail look s (first_x s) e f q) (second e f (rw q at w) (sides 1 (first_x s) (omega arith) f))

      go : Dec (look s ≡ 1) → Dec (look s ≡ 2) → Walk look s (trail look s) (ending look s)
      go (yes e) d = along (fail-trail look s e) (fail e)
      go (no a) (yes e) = open-node e (first_x_lem s (L.unknown s i e))
      go (no a) (no b) = along (left-trail look s a b) (leave (omega (arith, L.three s i)))

  walks_k : (k : ℕ) (s : Node) → IsNode n s → count_x s ≡ k → Walk look s (trail look s) (ending look s)
  walks_k zero s i e = step s i (λ v at h f. absurd (omega (arith, some_x f)))
  walks_k (suc k) s i e = step s i (λ v at h f. walks_k k (set s at v) (set_is at v (omega arith) i) (omega (arith, one_fewer {v = v} (λ q. omega arith) f)))

  pub walks : (s : Node) → IsNode n s → Walk look s (trail look s) (ending look s)
  walks s i = walks_k (count_x s) s i refl

-- ---- and the only one

ending_tested : (b : Bool) (t u : Node) → tested u ≡ ending_of b t → (b ≡ true) × (u ≡ t)
ending_tested true t u e = (refl, cc)
ending_tested false t u e = let z : ◌≡◌ {A = ℕ} 0 1 = cc in absurd (omega arith)

ending_finished : (b : Bool) (t : Node) → finished ≡ ending_of b t → b ≡ false
ending_finished true t e = let z : ◌≡◌ {A = ℕ} 0 1 = cc in absurd (omega arith)
ending_finished false t e = refl

told : {look : Look} {s : Node} {l : List Node} {fails : Bool} {test : Node} → Trail look s l fails test → (l ≡ trail look s) × (ending_of fails test ≡ ending look s)
told t = (sym t.looked, rw (t.fails-is, t.test_is))

pub only : {look : Look} {s : Node} {l : List Node} {e : Ending} → Walk look s l e → (l ≡ trail look s) × (e ≡ ending look s)
only {look} (fail {s = s} e) = told (fail-trail look s e)
only {look} (leave {s = s} e) = told (left-trail look s (λ q. omega arith) (λ q. omega arith))
only {look} (first {s = s} {x = x} e f w) =
    let p = only w in
    let q = ending_tested _ _ _ p.1 in
    let r = told (first_trail look s x e f q.0) in
    (ap (λ (l : List Node). s ∷ l) p.0 ∙ r.0, ap tested q.1 ∙ r.1)
only {look} (second {s = s} {x = x} e f w v) =
    let p = only w in
    let q = only v in
    let r = told (second_trail look s x e f (ending_finished _ _ p.1)) in
    (rw (p.0, q.0) r.0, q.1 ∙ r.1)

-- ---- with a budget

module _ (look : Look) (b : ℕ) (s : Node) where
  beyond : b < length (trail look s) → verdict_of look b s ≡ GivenUp b
  beyond h = sym (said look b (nodes look s) (GivenUp b) (record { all = refl; more = h }))

  inside : length (trail look s) ≤ b → verdict_of look b s ≡ verdict_by (ending look s) (length (trail look s))
  inside h = go (found look (nodes look s)) refl
    where
      go : (t : Bool) → found look (nodes look s) ≡ t → verdict_of look b s ≡ verdict_by (ending_of t (test_of look s)) (length (trail look s))
      go true q = sym (said look b (nodes look s) (Test _) (record { most = h; fails-is = q; count = refl }))
      go false q = sym (said look b (nodes look s) (Redundant _) (record { most = h; fails-is = q; count = refl }))

-- the verdict is an answer in the paper's words, and the only one
pub answers : {n : ℕ} {look : Look} → Looks n look → (b : ℕ) {s : Node} → IsNode n s → Answers look b s (verdict_of look b s)
answers {n} {look} L b {s} i = record {
  looked = trail look s;
  ending = ending look s;
  walk = walks L s i;
  gives_up = beyond look b s;
  decides = inside look b s;
}

pub one_answer : {look : Look} {b : ℕ} {s : Node} {r : Verdict} → Answers look b s r → r ≡ verdict_of look b s
one_answer {look} {b} {s} {r} a =
    let o = only a.walk in
    ⊎_elim
    (λ l. a.gives_up l ∙ sym (beyond look b s (rw o.0 at l)))
    (λ l. a.decides l ∙ rw (o.0, o.1) (sym (inside look b s (rw o.0 at l))))
    (either b (length a.looked))
