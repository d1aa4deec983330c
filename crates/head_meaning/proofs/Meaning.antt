-- What the answer of the search over head lines says, read off its promise, served or not; and that it agrees with the search over inputs.
-- Assumes nothing.
use mathlib.Core.Path.{◌≡◌, refl, sym, ◌∙◌, subst}
use mathlib.Core.Logic.{◌↔◌}
use mathlib.Core.Bool.{Bool, true, false}
use mathlib.Core.List.{List}
use Prim.Native.Nat.{ℕ, ◌+◌, ◌-◌, ◌^◌, ◌≤◌, ◌<◌}
use native.Mathlib.Omega.{arith}
use lib.ListN.{length}
use Rattle.answers.specs.Rules.{Ruling}
use Rattle.answers.specs.Rules.{refusal}
use Rattle.answers.proofs.Rules.{both_fine}
use Rattle.circuit.specs.Record.{lines_of, inputs_of}
use Rattle.circuit.specs.Promise.{circuit_rules}
use Rattle.circuit.specs.Formed.{WellFormed}
use Rattle.circuit.proofs.Accepted.{good}
use Rattle.lists.specs.Faults.{fault_at, fault_rules}
use Rattle.lists.proofs.Faults.{good_faults}
use Rattle.simulate.specs.Boolean.{Vector}
use Rattle.simulate.specs.Vectors.{Fills}
use Rattle.nodes.specs.declared.Verdict.{Verdict}
use Rattle.nodes.specs.declared.Verdict.TheVariants.{Test, Redundant, GivenUp}
use Rattle.nodes.specs.Node.{start}
use Rattle.nodes.specs.Budget.{Decided}
use Rattle.nodes.specs.Walk.{Answers}
use Rattle.nodes.proofs.Node.{start_is}
use Rattle.nodes.proofs.Walk.{answers}
use Rattle.nodes.proofs.Budget as budget
use Rattle.search.specs.Promise.{search_rest_rules, search_rules, Searches}
use Rattle.search.proofs.Says.{was_found}
use Rattle.verdicts.specs.Told.{Tells}
use Rattle.verdicts.proofs.Verdicts as inputs
use Rattle.cut.specs.Words.{HeadsServe}
use Rattle.head_verdicts.specs.Look.{head_look, head_verdict, head_test}
use Rattle.head_verdicts.proofs.Look.{head_looks}
use Rattle.head_verdicts.proofs.Verdicts as heads
use Rattle.search_heads.specs.Promise.{served, head_verdict_for, head_test_for, head_work_for, HeadSearches}
use Rattle.head_meaning.specs.Told.{head_count, all_head_nodes}
use Rattle.head_meaning.proofs.Served.{serves_says}
use Rattle.std.specs.Prelude.{Ok}

module _ {c f : List ℕ} {b : ℕ} {t w : List ℕ} {v : Verdict} {t' w' : List ℕ} (p : HeadSearches c f b t w (Ok v) t' w') where
  pub fine : (refusal (search_rules c f (length t) (length w)) ≡ Ok tt) × (v ≡ head_verdict_for c (fault_at f 0) b)
  fine = was_found p.answer

  accepted : (refusal (circuit_rules c) ≡ Ok tt) × (refusal (search_rest_rules c f (inputs_of c) (lines_of c) (length t) (length w)) ≡ Ok tt)
  accepted = both_fine (circuit_rules c) (search_rest_rules c f (inputs_of c) (lines_of c) (length t) (length w)) fine.0

  value : (fault_at f 0).value ≤ 1
  value =
      let g = good_faults 1 c f (both_fine (fault_rules 1 c f) _ accepted.1).0 in
      (g.faults 0 (omega (arith, g.records.some))).value

  pub well : WellFormed c (inputs_of c) (lines_of c)
  well = (good c accepted.0).well

  -- ---- where the fault is not served, the promise is the very one of the search

  pub as_search : served c (fault_at f 0) ≡ false → Searches c f b t w (Ok v) t' w'
  unfolding head_verdict_for head_test_for head_work_for
  as_search e = record { answer = rw e at p.answer; numbers = rw e at p.numbers; test = rw e at p.test; work = rw e at p.work }

  -- ---- where it is

  module _ (s : served c (fault_at f 0) ≡ true) where
    pub serves : HeadsServe c (lines_of c) (fault_at f 0)
    serves = (serves_says c (lines_of c) (fault_at f 0)).holds s

    -- the verdict is the definition's
    pub is : v ≡ head_verdict (fault_at f 0) c (lines_of c) b
    unfolding head_verdict_for
    is = rw s at fine.1

    -- the test buffer
    pub buffer : (k : ℕ) → v ≡ Test k → t' ≡ head_test (fault_at f 0) c (lines_of c)
    unfolding head_test_for
    buffer k e = p.test ∙ rw (fine.0, s, ← is, e)

    -- the answer in the paper's words: the nodes of head lines looked at one after the other, its end, its count
    pub in_words : Answers (head_look (fault_at f 0) c (lines_of c)) b (start (head_count c)) v
    in_words =
        subst (Answers (head_look (fault_at f 0) c (lines_of c)) b (start (head_count c))) (sym is)
        (answers (head_looks (fault_at f 0) well value) b (start_is (head_count c)))

    -- it gives up exactly if the search without a budget would look at more than b nodes of head lines; the count is then b
    pub gives_up : (k : ℕ) → (v ≡ GivenUp k) ↔ ((k ≡ b) × (b < all_head_nodes c (fault_at f 0)))
    gives_up k =
        let g = budget.gives_up (head_look (fault_at f 0) c (lines_of c)) (start (head_count c)) b k in
        (λ e. g.0 (sym is ∙ e), λ h. is ∙ g.1 h)

    -- for h head lines a budget of 2 ^ (h + 1) - 1 brings a verdict
    pub enough : head_count c ≤ 63 → b ≡ 2 ^ (head_count c + 1) - 1 → Decided v
    enough few e = rw (is, e) (heads.heads_enough (fault_at f 0) value well serves few)

    served_test : Decided v → ((k : ℕ) × (v ≡ Test k)) ↔ ((x : Vector) × Tells c (fault_at f 0) x)
    served_test d = (λ r. ((heads.test_exactly (fault_at f 0) value well serves b r.0).0 (sym is ∙ r.1)).0, λ some. go v refl d some)
      where
        go : (u : Verdict) → v ≡ u → Decided u → (x : Vector) × Tells c (fault_at f 0) x → (k : ℕ) × (v ≡ Test k)
        go (Test k) e d some = (k, e)
        go (Redundant k) e d some = absurd (((heads.redundant_exactly (fault_at f 0) value well serves b k).0 (sym is ∙ e)).0 some.0 some.1)
        go (GivenUp k) e d some = absurd d

    served_redundant : Decided v → ((k : ℕ) × (v ≡ Redundant k)) ↔ ((x : Vector) → Tells c (fault_at f 0) x → ⊥)
    served_redundant d = (λ r. ((heads.redundant_exactly (fault_at f 0) value well serves b r.0).0 (sym is ∙ r.1)).0, λ none. go v refl d none)
      where
        go : (u : Verdict) → v ≡ u → Decided u → ((x : Vector) → Tells c (fault_at f 0) x → ⊥) → (k : ℕ) × (v ≡ Redundant k)
        go (Test k) e d none = let a = (heads.test_exactly (fault_at f 0) value well serves b k).0 (sym is ∙ e) in absurd (none a.0.0 a.0.1)
        go (Redundant k) e d none = (k, e)
        go (GivenUp k) e d none = absurd d

  -- ---- served or not

  -- its test detects the fault: every filling of the test buffer, in the Boolean meaning
  pub test_detects : (k : ℕ) → v ≡ Test k → (x : Vector) → Fills t' x → Tells c (fault_at f 0) x
  test_detects k e x fills = go (served c (fault_at f 0)) refl
    where
      go : (u : Bool) → served c (fault_at f 0) ≡ u → Tells c (fault_at f 0) x
      go true s =
          heads.test_detects (fault_at f 0) value well (serves s) b k (sym (is s) ∙ e) x
          (subst (λ (q : List ℕ). Fills q x) (buffer s k e) fills)
      go false s = inputs.test_detects (as_search s) k e x fills

  -- "test" exactly if some vector tells good from faulty
  pub test_exactly : Decided v → ((k : ℕ) × (v ≡ Test k)) ↔ ((x : Vector) × Tells c (fault_at f 0) x)
  test_exactly d = go (served c (fault_at f 0)) refl
    where
      go : (u : Bool) → served c (fault_at f 0) ≡ u → ((k : ℕ) × (v ≡ Test k)) ↔ ((x : Vector) × Tells c (fault_at f 0) x)
      go true s = served_test s d
      go false s = inputs.test_exactly (as_search s) d

  -- "redundant" exactly if none does
  pub redundant_exactly : Decided v → ((k : ℕ) × (v ≡ Redundant k)) ↔ ((x : Vector) → Tells c (fault_at f 0) x → ⊥)
  redundant_exactly d = go (served c (fault_at f 0)) refl
    where
      go : (u : Bool) → served c (fault_at f 0) ≡ u → ((k : ℕ) × (v ≡ Redundant k)) ↔ ((x : Vector) → Tells c (fault_at f 0) x → ⊥)
      go true s = served_redundant s d
      go false s = inputs.redundant_exactly (as_search s) d

-- where both searches reach a verdict they agree, whatever their budgets
pub agree : {c f : List ℕ} {b b₂ : ℕ} {t w t₂ w₂ : List ℕ} {v u : Verdict} {t' w' t₂' w₂' : List ℕ}
    → HeadSearches c f b t w (Ok v) t' w'
    → Searches c f b₂ t₂ w₂ (Ok u) t₂' w₂'
    → Decided v
    → Decided u
    → (((k : ℕ) × (v ≡ Test k)) ↔ ((k : ℕ) × (u ≡ Test k))) × (((k : ℕ) × (v ≡ Redundant k)) ↔ ((k : ℕ) × (u ≡ Redundant k)))
agree p q d e =
    let a = test_exactly p d in
    let b = inputs.test_exactly q e in
    let r = redundant_exactly p d in
    let s = inputs.redundant_exactly q e in
    ((λ h. b.1 (a.0 h), λ h. a.1 (b.0 h)), (λ h. s.1 (r.0 h), λ h. r.1 (s.0 h)))
