-- From the checks to the promise of the search for a list; and that the promise allows one result only.
-- Assumes nothing.
use mathlib.Core.Path.{◌≡◌, refl, ◌∙◌}
use mathlib.Core.List.{List}
use Prim.Native.Nat.{ℕ, ◌*◌}
use native.Mathlib.Omega.{arith}
use lib.ListN.{length}
use Rattle.answers.specs.Rules.{Ruling}
use Rattle.answers.specs.Rules.{Rule, refusal, AllSay, AllHold}
use Rattle.answers.proofs.Rules.{all_hold, both_fine, both_say}
use Rattle.answers.proofs.Same.{eq_same}
use Rattle.answers.proofs.Answer.{ruling_is, fine_done, memory_part}
use Rattle.circuit.specs.Formed.{Known}
use Rattle.lists.specs.Faults.{fault_count, fault_rules}
use Rattle.lists.proofs.Faults.{faults_say, good_faults}
use Rattle.search_all.specs.Promise.{list_lent_rules, search_all_rest_rules, search_all_rules, SearchesAll}
use Rattle.list_search.specs.Owed.{SearchesReady, AllEnded}
use Rattle.search_all.specs.Owed.{Memories, SearchedAllBy}
use Rattle.search_all.proofs.Results.{results}
use Rattle.std.specs.Prelude.{Ok}

-- ---- tests and words of the rules agree

module _ (faults inputs lines budgets outcomes counts tests work : ℕ) where
  list_lent_say : AllSay (list_lent_rules faults inputs lines budgets outcomes counts tests work)
  unfolding list_lent_rules AllSay
  list_lent_say =
      (eq_same budgets faults, (eq_same outcomes faults, (eq_same counts faults, (eq_same tests (faults * inputs), (eq_same work (2 * lines), tt)))))

module _ (c fs : List ℕ) (inputs lines budgets outcomes counts tests work : ℕ) where
  pub rest_say : AllSay (search_all_rest_rules c fs inputs lines budgets outcomes counts tests work)
  rest_say = both_say (fault_rules 256 c fs) _ (faults_say 256 c fs) (list_lent_say (fault_count fs) inputs lines budgets outcomes counts tests work)

  -- what is not refused is ready
  pub ready : Known c lines inputs
      → refusal (search_all_rest_rules c fs inputs lines budgets outcomes counts tests work) ≡ Ok tt
      → SearchesReady c fs lines inputs budgets outcomes counts tests work
  unfolding list_lent_rules AllHold
  ready known e =
      let b = both_fine (fault_rules 256 c fs) _ e in
      let sizes =
      all_hold (list_lent_rules (fault_count fs) inputs lines budgets outcomes counts tests work)
      (list_lent_say (fault_count fs) inputs lines budgets outcomes counts tests work) b.1 in
      record {
        known = known;
        faults = good_faults 256 c fs b.0;
        budgets_are = sizes.0;
        outcomes_are = sizes.1.0;
        counts_are = sizes.1.1.0;
        tests_are = sizes.1.1.1.0;
        two = omega (arith, sizes.1.1.1.1.0);
      }

-- ---- where nothing is refused, what the list leaves is owed

pub list_searched : {rules : List Rule} {c fs bs : List ℕ} {n inputs : ℕ} {os ks ts w os' ks' ts' w' : List ℕ}
    → refusal rules ≡ Ok tt
    → SearchesReady c fs n inputs (length bs) (length os) (length ks) (length ts) (length w)
    → length os' ≡ length os
    → length ks' ≡ length ks
    → length ts' ≡ length ts
    → AllEnded c fs bs n inputs (os, ks, ts) w (os', ks', ts') w'
    → SearchedAllBy rules c fs bs (os, ks, ts, w) (Ok tt) (os', ks', ts', w')
list_searched e r o k t p = fine_done e refl (results r.known p (o ∙ r.outcomes_are) (k ∙ r.counts_are) (t ∙ r.tests_are))

-- ---- the promise

module _ {c fs bs o k t w : List ℕ} where
  pub searches_all : {r : Ruling} {o' k' t' w' : List ℕ}
      → SearchedAllBy (search_all_rules c fs bs o k t w) c fs bs (o, k, t, w) r (o', k', t', w')
      → SearchesAll c fs bs o k t w r o' k' t' w'
  searches_all {r} p =
      let answer : r ≡ refusal (search_all_rules c fs bs o k t w) = p.answer ∙ ruling_is _ in
      record {
        answer = answer;
        numbers = rw answer;
        outcomes = memory_part (λ (m : Memories). m.0) p;
        counts = memory_part (λ (m : Memories). m.1) p;
        tests = memory_part (λ (m : Memories). m.2) p;
        work = memory_part (λ (m : Memories). m.3) p;
      }

  -- two results that the promise allows are equal
  pub one_result : {r r₂ : Ruling} {o' o₂ k' k₂ t' t₂ w' w₂ : List ℕ}
      → SearchesAll c fs bs o k t w r o' k' t' w'
      → SearchesAll c fs bs o k t w r₂ o₂ k₂ t₂ w₂
      → (r ≡ r₂) × (o' ≡ o₂) × (k' ≡ k₂) × (t' ≡ t₂) × (w' ≡ w₂)
  one_result p q = (cc, cc, cc, cc, cc)
