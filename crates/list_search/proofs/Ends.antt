-- Every fault of the list has its results: those below the last that is searched for, that one, and those after it.
-- Assumes nothing.
use mathlib.Core.Path.{◌≡◌, refl, sym, ap, ◌∙◌}
use mathlib.Core.Logic.{⊎_elim}
use mathlib.Core.List.{List}
use Prim.Native.Nat.{ℕ, ◌-◌, ◌≤◌, ◌<◌}
use native.Mathlib.Omega.{arith}
use lib.ListN.{length}
use Rattle.ground.proofs.Tests.{either}
use Rattle.lists.specs.Faults.{fault_count}
use Rattle.nodes.specs.declared.Verdict.{Verdict}
use Rattle.nodes.specs.declared.Verdict.TheVariants.{GivenUp}
use Rattle.nodes.specs.Node.{Node}
use Rattle.nodes.specs.Order.{Look, nodes, test_of}
use Rattle.nodes.specs.Budget.{verdict_of, nodes_of, test_by}
use Rattle.nodes.proofs.Verdicts.{said}
use Rattle.nodes.proofs.Trail.{some_node}
use Rattle.standings.specs.Outcome.{outcome_of, Ended}
use Rattle.search.specs.Promise.{work_for}
use Rattle.meetings.specs.Owed.{Held, SameAt}
use Rattle.walks.specs.Owed.{AllReach}
use Rattle.list_search.specs.Owed.{AfterLast, SearchesReady, EndedAt, OthersDone, OneDone, AllEnded}
use Rattle.list_search.proofs.Works.{works_none, works_last}

-- a search with budget 0 is given up, and writes no test
pub given-up : {look : Look} {b : ℕ} {s : Node} {t : List ℕ} {o k : ℕ} → b ≡ 0 → o ≡ 2 → k ≡ 0 → Ended look b s t o k t
given-up {look} {b} {s} {t} e o k =
    let v : GivenUp 0 ≡ verdict_of look b s = rw e (said look 0 (nodes look s) (GivenUp 0) (record { all = refl; more = some_node look s })) in
    record { outcome_is = o ∙ ap outcome_of v; count_is = k ∙ ap nodes_of v; test_is = ap (λ (r : Verdict). test_by r t (test_of look s)) v }

module _ {c fs bs : List ℕ} {n inputs : ℕ} {os ks ts w : List ℕ} {stop : ℕ} (r : SearchesReady c fs n inputs (length bs) (length os) (length ks) (length ts) (length w))
    (a : AfterLast bs stop) (m : AllReach os ks 2 (fault_count fs)) where
  -- nothing is to be searched
  pub below_none : stop ≡ 0 → AllEnded c fs bs n inputs (os, ks, ts) w (os, ks, ts) w
  below_none e = record {
    ended = λ j h. given-up (a.none j (omega arith)) (m j h).0 (m j h).1;
    work = sym (works_none c fs bs w a (fault_count fs) e);
  }

  -- the last is searched for after the others
  pub below_done : {last : ℕ} {h₁ : Held} {w₁ : List ℕ} {h₂ : Held} {w₂ : List ℕ}
      → 0 < stop
      → OthersDone c fs bs n inputs last (os, ks, ts) h₁
      → OneDone c fs bs n inputs last h₁ w₁ h₂ w₂
      → last ≡ stop - 1
      → AllEnded c fs bs n inputs (os, ks, ts) w h₂ w₂
  unfolding work_for
  below_done {last} {h₁} {w₁} {h₂} some others one is = record {
    ended = λ j h. ⊎_elim (below j) (λ l. ⊎_elim (λ b. own j (omega arith)) (above j h) (either j stop)) (either j last);
    work =
        one.work
        ∙ rw (r.known.lines, r.known.inputs, is)
        (sym (works_last c fs bs w a (fault_count fs) (omega (arith, a.inside, r.budgets_are)) some w₁));
  }
    where
      -- results that stay
      still : {h h' : Held} {j : ℕ} → SameAt inputs h h' j → EndedAt c fs bs n inputs (os, ks, ts) h j → EndedAt c fs bs n inputs (os, ks, ts) h' j
      still same p = rw (same.reach, same.count, same.test) p

      below : (j : ℕ) → j < last → EndedAt c fs bs n inputs (os, ks, ts) h₂ j
      below j l = still (one.same j (λ q. omega arith)) (others.ended j l)

      own : (j : ℕ) → j ≡ last → EndedAt c fs bs n inputs (os, ks, ts) h₂ j
      own j e = rw (e, ← (others.same last (omega arith)).test) one.ended

      above : (j : ℕ) → j < fault_count fs → stop ≤ j → EndedAt c fs bs n inputs (os, ks, ts) h₂ j
      above j h l = still (one.same j (λ q. omega arith)) (still (others.same j (omega arith)) (given-up (a.none j l) (m j h).0 (m j h).1))
