-- What the search's answer says, read off its promise: of complete vectors in the Boolean meaning, and of budgets. For 64 inputs too.
-- Assumes nothing.
use mathlib.Core.Path.{◌≡◌, refl, sym, ◌∙◌, subst}
use mathlib.Core.Logic.{◌↔◌}
use mathlib.Core.List.{List, []}
use Prim.Native.Nat.{ℕ, ◌+◌, ◌-◌, ◌^◌, ◌≤◌, ◌<◌}
use native.Mathlib.Omega.{arith}
use lib.ListN.{length, get_or}
use Rattle.answers.specs.Rules.{Ruling}
use Rattle.answers.specs.Rules.{refusal}
use Rattle.answers.proofs.Rules.{both_fine}
use Rattle.circuit.specs.Record.{lines_of, inputs_of}
use Rattle.circuit.specs.Promise.{circuit_rules}
use Rattle.circuit.proofs.Accepted.{good}
use Rattle.lists.specs.Faults.{fault_at, fault_rules}
use Rattle.lists.proofs.Faults.{good_faults}
use Rattle.simulate.specs.Boolean.{Vector}
use Rattle.simulate.specs.Vectors.{Fills}
use Rattle.nodes.specs.declared.Verdict.{Verdict}
use Rattle.nodes.specs.declared.Verdict.TheVariants.{Test, Redundant, GivenUp}
use Rattle.nodes.specs.Node.{start}
use Rattle.nodes.specs.Order.{trail, test_of}
use Rattle.nodes.specs.Budget.{verdict_of, Decided, test_by}
use Rattle.nodes.specs.Walk.{Answers}
use Rattle.nodes.proofs.Node.{start_is}
use Rattle.nodes.proofs.Walk.{answers}
use Rattle.nodes.proofs.Budget as budget
use Rattle.search.specs.Promise.{search_rest_rules, search_rules, look, verdict_for, test_for, work_for, Searches}
use Rattle.search.proofs.Says.{was_found}
use Rattle.verdicts.specs.Meaning.{FaithfulLook}
use Rattle.verdicts.specs.Told.{Tells, all_nodes, works}
use Rattle.verdicts.proofs.Look.{means}
use Rattle.verdicts.proofs.Meaning as meaning
use Rattle.std.specs.Prelude.{Ok}

-- a node of an accepted circuit and fault means what it says
pub accepted_means : (c f : List ℕ) → refusal (circuit_rules c) ≡ Ok tt → refusal (fault_rules 1 c f) ≡ Ok tt → FaithfulLook (inputs_of c) (look c (fault_at f 0)) (Tells c (fault_at f 0))
accepted_means c f circuit fault =
    let g = good_faults 1 c f fault in
    means (fault_at f 0) c (lines_of c) (g.faults 0 (omega (arith, g.records.some))).value (good c circuit).well

module _ {c f : List ℕ} {b : ℕ} {t w : List ℕ} {v : Verdict} {t' w' : List ℕ} (p : Searches c f b t w (Ok v) t' w') where
  fine : (refusal (search_rules c f (length t) (length w)) ≡ Ok tt) × (v ≡ verdict_for c (fault_at f 0) b)
  fine = was_found p.answer

  node_means : FaithfulLook (inputs_of c) (look c (fault_at f 0)) (Tells c (fault_at f 0))
  node_means =
      let a = both_fine (circuit_rules c) (search_rest_rules c f (inputs_of c) (lines_of c) (length t) (length w)) fine.0 in
      accepted_means c f a.0 (both_fine (fault_rules 1 c f) _ a.1).0

  -- the verdict is the definition's
  is : v ≡ verdict_of (look c (fault_at f 0)) b (start (inputs_of c))
  unfolding verdict_for
  is = fine.1

  -- and the answer of the search in the paper's words: the nodes looked at one after the other, its end, its count
  pub in_words : Answers (look c (fault_at f 0)) b (start (inputs_of c)) v
  in_words = subst (Answers (look c (fault_at f 0)) b (start (inputs_of c))) (sym is) (answers node_means.looks b (start_is (inputs_of c)))

  -- ---- of vectors

  -- "redundant" exactly if no complete vector tells good from faulty
  pub redundant_exactly : Decided v → ((k : ℕ) × (v ≡ Redundant k)) ↔ ((x : Vector) → Tells c (fault_at f 0) x → ⊥)
  redundant_exactly d = (λ r. ((meaning.redundant_exactly node_means b r.0).0 (sym is ∙ r.1)).0, λ none. go v refl d none)
    where
      go : (u : Verdict) → v ≡ u → Decided u → ((x : Vector) → Tells c (fault_at f 0) x → ⊥) → (k : ℕ) × (v ≡ Redundant k)
      go (Test k) e d none = let a = (meaning.test_exactly node_means b k).0 (sym is ∙ e) in absurd (none a.0.0 a.0.1)
      go (Redundant k) e d none = (k, e)
      go (GivenUp k) e d none = absurd d

  -- "test" exactly if one does
  pub test_exactly : Decided v → ((k : ℕ) × (v ≡ Test k)) ↔ ((x : Vector) × Tells c (fault_at f 0) x)
  test_exactly d = (λ r. ((meaning.test_exactly node_means b r.0).0 (sym is ∙ r.1)).0, λ some. go v refl d some)
    where
      go : (u : Verdict) → v ≡ u → Decided u → (x : Vector) × Tells c (fault_at f 0) x → (k : ℕ) × (v ≡ Test k)
      go (Test k) e d some = (k, e)
      go (Redundant k) e d some = absurd (((meaning.redundant_exactly node_means b k).0 (sym is ∙ e)).0 some.0 some.1)
      go (GivenUp k) e d some = absurd d

  -- and only with a pattern all of whose fillings detect: it stands in the test buffer
  pub test_detects : (k : ℕ) → v ≡ Test k → (x : Vector) → Fills t' x → Tells c (fault_at f 0) x
  unfolding test_for verdict_for
  test_detects k e x fills =
      let buffer : t' ≡ test_of (look c (fault_at f 0)) (start (inputs_of c)) = p.test ∙ rw (fine.0, ← is, e) in
      meaning.test_detects node_means b k (sym is ∙ e) x (subst (λ (s : List ℕ). Fills s x) buffer fills)

  -- ---- of budgets

  -- it gives up exactly if the search without a budget would look at more than b nodes; the count is then b
  pub gives_up : (k : ℕ) → (v ≡ GivenUp k) ↔ ((k ≡ b) × (b < all_nodes c (fault_at f 0)))
  gives_up k =
      let g = budget.gives_up (look c (fault_at f 0)) (start (inputs_of c)) b k in
      (λ e. g.0 (sym is ∙ e), λ h. is ∙ g.1 h)

  -- for n up to 63 a budget of 2 ^ (n + 1) - 1 always brings a verdict
  pub enough : inputs_of c ≤ 63 → b ≡ 2 ^ (inputs_of c + 1) - 1 → Decided v
  enough small e = rw (is, e) (budget.enough (look c (fault_at f 0)) (inputs_of c) small).1

  -- ---- of the lent memory

  -- the test buffer is written only for a test
  pub test_buffer : t' ≡ test_by v t (test_of (look c (fault_at f 0)) (start (inputs_of c)))
  unfolding test_for verdict_for
  test_buffer = p.test ∙ rw (fine.0, ← is)

  -- with budget 0 the work memory is untouched
  pub work_untouched : b ≡ 0 → w' ≡ w
  unfolding work_for
  work_untouched e = p.work ∙ rw (fine.0, e) (budget.untouched (look c (fault_at f 0)) (works c (fault_at f 0)) w (start (inputs_of c)))

  -- given up, it holds good and faulty values of the b-th node; else of the last one looked at
  pub work_of_b_th : 0 < b → b ≤ all_nodes c (fault_at f 0) → w' ≡ works c (fault_at f 0) (get_or (trail (look c (fault_at f 0)) (start (inputs_of c))) (b - 1) [])
  unfolding work_for
  work_of_b_th some h = p.work ∙ rw fine.0 (budget.of_b_th (look c (fault_at f 0)) (works c (fault_at f 0)) w (start (inputs_of c)) b some h)

  pub work_of_last : 0 < b → all_nodes c (fault_at f 0) ≤ b → w' ≡ works c (fault_at f 0) (get_or (trail (look c (fault_at f 0)) (start (inputs_of c))) (all_nodes c (fault_at f 0) - 1) [])
  unfolding work_for
  work_of_last some h = p.work ∙ rw fine.0 (budget.of_last (look c (fault_at f 0)) (works c (fault_at f 0)) w (start (inputs_of c)) b some h)

-- a larger budget never changes a verdict, nor the test
module _ {c f : List ℕ} {b b2 : ℕ} {t w t2 w2 : List ℕ} {v v2 : Verdict} {t' w' t2' w2' : List ℕ} (more : b ≤ b2)
    (p : Searches c f b t w (Ok v) t' w') (q : Searches c f b2 t2 w2 (Ok v2) t2' w2') (d : Decided v) where
  pub larger : v2 ≡ v
  larger = is q ∙ budget.larger (look c (fault_at f 0)) (start (inputs_of c)) b b2 more (subst Decided (is p) d) ∙ sym (is p)

  pub larger_test : (k : ℕ) → v ≡ Test k → t2' ≡ t'
  larger_test k e =
      let small : t' ≡ test_of (look c (fault_at f 0)) (start (inputs_of c)) = test_buffer p ∙ rw e in
      let large : t2' ≡ test_of (look c (fault_at f 0)) (start (inputs_of c)) = test_buffer q ∙ rw (larger ∙ e) in
      large ∙ sym small
