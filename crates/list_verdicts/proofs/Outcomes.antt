-- Each fault of an accepted list has the verdict of its own search, read off the bytes: what is proved of that holds of this.
-- Assumes nothing.
use mathlib.Core.Path.{◌≡◌, refl, ap, ◌∙◌}
use mathlib.Core.Logic.{⊎_elim}
use mathlib.Core.List.{List}
use Prim.Native.Nat.{ℕ, ◌≤◌, ◌<◌}
use native.Mathlib.Omega.{arith}
use lib.ListN.{length, get_or}
use Rattle.ground.proofs.Tests.{either}
use Rattle.circuit.specs.Record.{inputs_of}
use Rattle.lists.specs.Faults.{fault_count, fault_at}
use Rattle.lists.specs.Patterns.{pattern_at}
use Rattle.nodes.specs.declared.Verdict.{Verdict}
use Rattle.nodes.specs.declared.Verdict.TheVariants.{Test, Redundant, GivenUp}
use Rattle.nodes.specs.Budget.{nodes_of, Decided}
use Rattle.nodes.specs.Walk.{Ending, tested, finished, verdict_by}
use Rattle.nodes.proofs.Walk.{only}
use Rattle.standings.specs.Outcome.{outcome_of}
use Rattle.search.specs.Promise.{Searches}
use Rattle.search_all.specs.Promise.{SearchesAll}
use Rattle.search_all.proofs.Each.{list_ready, outcome_at, count_at}
use Rattle.search_all.proofs.InTurn.{record_fault, single}
use Rattle.verdicts.specs.Told.{all_nodes}
use Rattle.verdicts.proofs.Verdicts as verdicts
use Rattle.list_verdicts.specs.Outcomes.{OutcomeMeans}
use Rattle.std.specs.Prelude.{Ok}

-- ---- a verdict by its outcome

three : (v : Verdict) → outcome_of v ≤ 2
three (Test k) = omega arith
three (Redundant k) = omega arith
three (GivenUp k) = omega arith

is_test : (v : Verdict) → outcome_of v ≡ 0 → (k : ℕ) × (v ≡ Test k)
is_test (Test k) e = (k, refl)
is_test (Redundant k) e = absurd (omega arith)
is_test (GivenUp k) e = absurd (omega arith)

is_redundant : (v : Verdict) → outcome_of v ≡ 1 → (k : ℕ) × (v ≡ Redundant k)
is_redundant (Test k) e = absurd (omega arith)
is_redundant (Redundant k) e = (k, refl)
is_redundant (GivenUp k) e = absurd (omega arith)

is-given-up : (v : Verdict) → outcome_of v ≡ 2 → (k : ℕ) × (v ≡ GivenUp k)
is-given-up (Test k) e = absurd (omega arith)
is-given-up (Redundant k) e = absurd (omega arith)
is-given-up (GivenUp k) e = (k, refl)

decided : (v : Verdict) → (outcome_of v ≡ 2 → ⊥) → Decided v
decided (Test k) n = tt
decided (Redundant k) n = tt
decided (GivenUp k) n = n refl

undecided : (v : Verdict) → Decided v → outcome_of v ≡ 2 → ⊥
undecided (Test k) d e = omega arith
undecided (Redundant k) d e = omega arith
undecided (GivenUp k) d e = d

count_by : (e : Ending) (k : ℕ) → nodes_of (verdict_by e k) ≡ k
count_by (tested t) k = refl
count_by finished k = refl

-- ---- of a single search

module _ {c f : List ℕ} {b : ℕ} {t w : List ℕ} {v : Verdict} {t' w' : List ℕ} (p : Searches c f b t w (Ok v) t' w') where
  counted : (outcome_of v ≡ 2 → ⊥) → nodes_of v ≡ all_nodes c (fault_at f 0)
  counted n =
      let a = verdicts.in_words p in
      ⊎_elim
      (λ l. absurd (n (ap outcome_of (a.gives_up l))))
      (λ l. ap nodes_of (a.decides l) ∙ count_by a.ending (length a.looked) ∙ ap length (only a.walk).0)
      (either b (length a.looked))

  means : OutcomeMeans c (fault_at f 0) b (outcome_of v) (nodes_of v) t'
  means = record {
    three = three v;
    test_detects = λ e. let r = is_test v e in verdicts.test_detects p r.0 r.1;
    test_exactly = λ n. let q = verdicts.test_exactly p (decided v n) in (λ e. q.0 (is_test v e), λ some. ap outcome_of (q.1 some).1);
    redundant_exactly = λ n. let q = verdicts.redundant_exactly p (decided v n) in (λ e. q.0 (is_redundant v e), λ none. ap outcome_of (q.1 none).1);
    gives_up = (λ e. let r = is-given-up v e in ((verdicts.gives_up p r.0).0 r.1).1, λ l. ap outcome_of ((verdicts.gives_up p b).1 (refl, l)));
    enough = λ small e. undecided v (verdicts.enough p small e);
    counted = counted;
    spent = λ e. let r = is-given-up v e in ap nodes_of r.1 ∙ ((verdicts.gives_up p r.0).0 r.1).0;
  }

-- ---- of each fault of an accepted list

pub outcomes_mean : {c fs bs o k t w o' k' t' w' : List ℕ}
    → SearchesAll c fs bs o k t w (Ok tt) o' k' t' w'
    → (i : ℕ) → i < fault_count fs
    → OutcomeMeans c (fault_at fs i) (get_or bs i 0) (get_or o' i 0) (get_or k' i 0) (pattern_at (inputs_of c) t' i)
outcomes_mean {fs = fs} {w = w} p i h = rw (outcome_at p i h, count_at p i h) (rw (record_fault fs i) at (means (single p i h w (list_ready p).two)))
