-- What a call that refuses nothing leaves for each fault of its list.
-- Assumes nothing.
use mathlib.Core.Path.{◌≡◌, refl, sym, ◌∙◌}
use mathlib.Core.List.{List}
use Prim.Native.Nat.{ℕ, ◌<◌}
use native.Mathlib.Omega.{arith}
use lib.ListN.{length, get_or, length-take, length-drop, length-set, length-replicate}
use Rattle.ground.proofs.Grow.{table_at}
use Rattle.answers.specs.Rules.{refusal}
use Rattle.answers.proofs.Rules.{both_fine}
use Rattle.circuit.specs.Record.{lines_of, inputs_of}
use Rattle.circuit.specs.Promise.{circuit_rules}
use Rattle.circuit.proofs.Accepted.{good}
use Rattle.lists.specs.declared.Fault.{Fault}
use Rattle.lists.specs.Faults.{fault_count, fault_at}
use Rattle.lists.specs.Patterns.{pattern_at}
use Rattle.nodes.specs.declared.Verdict.{Verdict}
use Rattle.nodes.specs.declared.Verdict.TheVariants.{Test, Redundant, GivenUp}
use Rattle.nodes.specs.Node.{Node, IsNode, start}
use Rattle.nodes.specs.Order.{Look, nodes, test_of}
use Rattle.nodes.specs.Budget.{verdict_of, nodes_of, test_by}
use Rattle.nodes.specs.Walk.{Looks, tested, Walk, fail, first, second}
use Rattle.nodes.proofs.Node.{start_is}
use Rattle.nodes.proofs.Verdicts.{says}
use Rattle.nodes.proofs.Walk.{walks}
use Rattle.standings.specs.Outcome.{outcome_of}
use Rattle.search.specs.Promise.{look, verdict_for, test_for}
use Rattle.list_search.specs.Works.{works_for}
use Rattle.search_all.specs.Promise.{verdict_at, outcomes_for, counts_for, tests_for, search_all_rest_rules, SearchesAll}
use Rattle.list_search.specs.Owed.{SearchesReady}
use Rattle.list_search.proofs.Pieces.{gathered_part}
use Rattle.list_search.proofs.Parts.{part_inside, one-ready}
use Rattle.search_all.proofs.Answer.{ready}
use Rattle.std.specs.Prelude.{Ok}

-- ---- a test has a byte an input

walked_long : {look : Look} {s t : Node} {l : List Node} → Walk look s l (tested t) → length t ≡ length s
walked_long (fail e) = refl
walked_long (first {s = s} {x = x} e f w) = walked_long w ∙ length-set s x 0
walked_long (second {s = s} {x = x} e f w v) = walked_long v ∙ length-set s x 1

test_long : {n : ℕ} {look : Look} → Looks n look → (b k : ℕ) (s : Node) → IsNode n s → Test k ≡ verdict_of look b s → length (test_of look s) ≡ length s
test_long {n} {look} L b k s i e = walked_long (rw (says look b (nodes look s) e).fails-is at (walks L s i))

test_for_long : (c : List ℕ) (fault : Fault) (b : ℕ) (t : List ℕ) → Looks (inputs_of c) (look c fault) → length t ≡ inputs_of c → length (test_for c fault b t) ≡ inputs_of c
unfolding test_for verdict_for
test_for_long c fault b t L e = go (verdict_for c fault b) refl
  where
    go : (v : Verdict) → v ≡ verdict_for c fault b → length (test_by v t (test_of (look c fault) (start (inputs_of c)))) ≡ inputs_of c
    go (Test k) q = test_long L b k (start (inputs_of c)) (start_is (inputs_of c)) q ∙ length-replicate (inputs_of c) 2
    go (Redundant k) q = e
    go (GivenUp k) q = e

-- ---- a call that refuses nothing

module _ {c fs bs o k t w o' k' t' w' : List ℕ} (p : SearchesAll c fs bs o k t w (Ok tt) o' k' t' w') where
  both : (refusal (circuit_rules c) ≡ Ok tt)
      × (refusal (search_all_rest_rules c fs (inputs_of c) (lines_of c) (length bs) (length o) (length k) (length t) (length w)) ≡ Ok tt)
  both = both_fine (circuit_rules c) _ (sym p.answer)

  -- its circuit and its list are fine
  pub circuit_fine : refusal (circuit_rules c) ≡ Ok tt
  circuit_fine = both.0

  pub list_ready : SearchesReady c fs (lines_of c) (inputs_of c) (length bs) (length o) (length k) (length t) (length w)
  list_ready =
      ready c fs (inputs_of c) (lines_of c) (length bs) (length o) (length k) (length t) (length w)
      (record { lines = refl; inputs = refl; outputs = refl; fine = circuit_fine; good = good c circuit_fine }) both.1

  module _ (i : ℕ) (h : i < fault_count fs) where
    pub part_long : length (pattern_at (inputs_of c) t i) ≡ inputs_of c
    part_long = simp (length-take, length-drop) (omega (arith, part_inside list_ready h))

    looks_at_lem : Looks (inputs_of c) (look c (fault_at fs i))
    looks_at_lem = (one-ready t list_ready h refl).1.ready.looks

    test_at_long : length (test_for c (fault_at fs i) (get_or bs i 0) (pattern_at (inputs_of c) t i)) ≡ inputs_of c
    test_at_long = test_for_long c (fault_at fs i) (get_or bs i 0) (pattern_at (inputs_of c) t i) looks_at_lem part_long

    -- the outcome, the count and the test of fault i
    pub outcome_at : get_or o' i 0 ≡ outcome_of (verdict_at c fs bs i)
    unfolding outcomes_for
    outcome_at = rw (p.outcomes, ← p.answer) (table_at (λ j. outcome_of (verdict_at c fs bs j)) (fault_count fs) 0 i h)

    pub count_at : get_or k' i 0 ≡ nodes_of (verdict_at c fs bs i)
    unfolding counts_for
    count_at = rw (p.counts, ← p.answer) (table_at (λ j. nodes_of (verdict_at c fs bs j)) (fault_count fs) 0 i h)

  pub test_at : (i : ℕ) → i < fault_count fs → pattern_at (inputs_of c) t' i ≡ test_for c (fault_at fs i) (get_or bs i 0) (pattern_at (inputs_of c) t i)
  unfolding tests_for
  test_at i h =
      rw (p.tests, ← p.answer)
      (gathered_part (inputs_of c) (λ j. test_for c (fault_at fs j) (get_or bs j 0) (pattern_at (inputs_of c) t j)) (fault_count fs) i test_at_long h)

  -- and the work memory
  pub work_all : w' ≡ works_for c fs bs w
  work_all = p.work ∙ rw (← p.answer)
