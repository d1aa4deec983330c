-- The standing after all nodes of a search is its verdict: outcome, count and test.
-- Assumes nothing.
use mathlib.Core.Path.{◌≡◌, refl, sym, ap, ◌∙◌}
use mathlib.Core.List.{List, [], ◌∷◌}
use Prim.Native.Nat.{ℕ, zero, suc, ◌+◌, ◌<◌}
use native.Mathlib.Nat.{zero-add}
use native.Mathlib.Decide.{ℕ_discrete}
use native.Mathlib.Omega.{arith}
use borrow.Author.Tests.{eq-eqb, ne_eqb, le-leb, lt-leb}
use Rattle.nodes.specs.declared.Verdict.{Verdict}
use Rattle.nodes.specs.declared.Verdict.TheVariants.{Test, Redundant, GivenUp}
use Rattle.nodes.specs.Node.{Node}
use Rattle.nodes.specs.Order.{Look, upto, found, test_in, nodes}
use Rattle.nodes.specs.Budget.{verdict_in, nodes_of, test_by}
use Rattle.nodes.proofs.Verdicts.{says, said}
use Rattle.standings.specs.Outcome.{outcome_of, Ended}
use Rattle.standings.specs.Owed.{Standing, past}
use Rattle.standings.proofs.Past.{counted, closed}

-- one node more
abbrev more : Verdict → Verdict
more (Test k) = Test (suc k)
more (Redundant k) = Redundant (suc k)
more (GivenUp k) = GivenUp (suc k)

-- what is told of a verdict, where k nodes were looked at before and t was there
abbrev pub standing_by : ℕ → List ℕ → Node → Verdict → Standing
standing_by k t test r = (outcome_of r, k + nodes_of r, test_by r t test)

module _ (look : Look) where
  spent : (s : Node) (l : List Node) → verdict_in look 0 (s ∷ l) ≡ GivenUp 0
  unfolding upto
  spent s l = sym (said look 0 (s ∷ l) (GivenUp 0) (record { all = refl; more = omega arith }))

  fails : (b : ℕ) (s : Node) (l : List Node) → look s ≡ 1 → 0 < b → verdict_in look b (s ∷ l) ≡ Test 1
  unfolding upto found
  fails b s l e h = sym (said look b (s ∷ l) (Test 1) (record { most = h; fails-is = rw (eq-eqb _ 1 e); count = rw (eq-eqb _ 1 e) }))

  goes_on_lem : (b : ℕ) (s : Node) (l : List Node) → (look s ≡ 1 → ⊥) → verdict_in look (suc b) (s ∷ l) ≡ more (verdict_in look b l)
  unfolding upto found
  goes_on_lem b s l d = sym (go (verdict_in look b l) refl)
    where
      go : (r : Verdict) → r ≡ verdict_in look b l → more r ≡ verdict_in look (suc b) (s ∷ l)
      go (Test k) e = let p = says look b l e in said look (suc b) (s ∷ l) (Test (suc k)) (record { most = omega (arith, p.most); fails-is = rw (ne_eqb _ 1 d) p.fails-is; count = rw (ne_eqb _ 1 d) (ap suc p.count) })
      go (Redundant k) e = let p = says look b l e in said look (suc b) (s ∷ l) (Redundant (suc k)) (record { most = omega (arith, p.most); fails-is = rw (ne_eqb _ 1 d) p.fails-is; count = rw (ne_eqb _ 1 d) (ap suc p.count) })
      go (GivenUp k) e = let p = says look b l e in said look (suc b) (s ∷ l) (GivenUp (suc k)) (record { all = ap suc p.all; more = rw (ne_eqb _ 1 d) (omega (arith, p.more)) })

  told_more : (k : ℕ) (t test : List ℕ) (r : Verdict) → standing_by (suc k) t test r ≡ standing_by k t test (more r)
  told_more k t test (Test j) = counted 0 test (omega arith)
  told_more k t test (Redundant j) = counted 1 t (omega arith)
  told_more k t test (GivenUp j) = counted 2 t (omega arith)

  -- k nodes were looked at before, and j more may be
  pub from : (b j k : ℕ) (l : List Node) (t : List ℕ) → b ≡ k + j → past look b l (1, k, t) ≡ standing_by k t (test_in look l) (verdict_in look j l)
  unfolding past verdict_in upto found test_in
  from b j k [] t e = rw (le-leb 0 j (omega arith)) (counted 1 t (omega arith))
  from b zero k (s ∷ l) t e =
      rw (le-leb b k (omega arith), spent s l) (closed look b l 2 k t (λ p. absurd (omega arith)) ∙ counted 2 t (omega arith))
  from b (suc j) k (s ∷ l) t e = go (ℕ_discrete (look s) 1) (from b j (suc k) l t (omega arith))
    where
      go : Dec (look s ≡ 1) → past look b l (1, suc k, t) ≡ standing_by (suc k) t (test_in look l) (verdict_in look j l) → past look b (s ∷ l) (1, k, t) ≡ standing_by k t (test_in look (s ∷ l)) (verdict_in look (suc j) (s ∷ l))
      go (yes p) h = rw (lt-leb b k (omega arith), fails (suc j) s l p (omega arith), eq-eqb _ 1 p)
          (closed look b l 0 (suc k) s (λ q. absurd (omega arith)) ∙ counted 0 s (omega arith))
      go (no d) h = rw (lt-leb b k (omega arith), goes_on_lem j s l d, ne_eqb _ 1 d)
          (h ∙ told_more k t (test_in look l) (verdict_in look j l))

  -- from the start on
  pub ends : (b : ℕ) (s : Node) (t : List ℕ) {o k : ℕ} {t' : List ℕ} → (o, k, t') ≡ past look b (nodes look s) (1, 0, t) → Ended look b s t o k t'
  ends b s t e =
      let all = e ∙ from b b 0 (nodes look s) t (omega arith) in
      record { outcome_is = ap (λ (st : Standing). st.0) all; count_is = ap (λ (st : Standing). st.1) all ∙ zero-add _; test_is = ap (λ (st : Standing). st.2) all }
