-- Demand 3: the list of an accepted circuit and a fault is faithful to them.
-- Assumes nothing.
use mathlib.Core.Path.{◌≡◌, refl, sym, ap, ◌∙◌}
use mathlib.Core.Logic.{◌↔◌}
use mathlib.Core.Bool.{Bool, true, false, not, beq, false≢true}
use mathlib.Core.List.{List}
use Prim.Native.Nat.{ℕ, ◌<◌}
use lib.Dec.{eqb}
use lib.ListN.{length}
use Rattle.ground.proofs.Counting.{count_below_lem}
use Rattle.circuit.specs.Record.{lines_of, is_input, is_output, outputs_before}
use Rattle.circuit.specs.Formed.{WellFormed, Good}
use Rattle.lists.specs.declared.Fault.{Fault}
use Rattle.simulate.specs.Boolean.{Vector, good, faulty, truth_at, Detects}
use Rattle.cnf.specs.Cnf.{Assignment, Satisfies, words_of}
use Rattle.line_clauses.specs.Clauses.{good_var, faulty_var, difference_var, variables_of, clauses_of}
use Rattle.satisfied.specs.Satisfied.{Extension, SameTo, FaithfulWords}
use Rattle.satisfied.proofs.Places.{clause_place, place_is, at_places}
use Rattle.satisfied.proofs.Columns.{one_column, same_column, truths_column}
use Rattle.satisfied.proofs.Parts.{list_variables, list_decodes}
use Rattle.satisfied.proofs.Models.{Models, models, extension}
use Rattle.satisfied.proofs.Assignment.{assigned, at_good, at_faulty, at_stuck, at_difference, everywhere}

unequal : Bool → Bool → Bool
unequal a b = not (beq a b)

differ_unequal : (a b : Bool) → (a ≡ b → ⊥) → unequal a b ≡ true
unfolding unequal
differ_unequal true true h = absurd (h refl)
differ_unequal true false h = refl
differ_unequal false true h = refl
differ_unequal false false h = absurd (h refl)

unequal_differ : (a b : Bool) → unequal a b ≡ true → a ≡ b → ⊥
unfolding unequal
unequal_differ true true e q = false≢true e
unequal_differ true false e q = false≢true (sym q)
unequal_differ false true e q = false≢true q
unequal_differ false false e q = false≢true e

-- the inputs of an assignment, as a vector
vector_of : List ℕ → ℕ → Assignment → Vector
vector_of c n σ j = σ (good_var (clause_place (is_input c) n j))

module _ (c : List ℕ) (f : Fault) {m n : ℕ} (w : WellFormed c m n) where
  module _ (x : Vector) where
    good_truth : ℕ → Bool
    good_truth = truth_at good c x n

    faulty_truth : ℕ → Bool
    faulty_truth = truth_at (faulty f) c x n

    -- ---- an assignment that extends the vector has the truths of both circuits

    module _ (σ : Assignment) (h : Models c f n x σ) where
      good-is : (k : ℕ) → k < n → σ (good_var k) ≡ good_truth k
      unfolding good_truth
      good-is = one_column w good x h.good_column (truths_column good c x w)

      faulty-is : (k : ℕ) → k < n → σ (faulty_var k) ≡ faulty_truth k
      unfolding faulty_truth
      faulty-is = one_column w (faulty f) x h.faulty_column (truths_column (faulty f) c x w)

      difference_is : (k : ℕ) → k < n → is_output c k ≡ true → σ (difference_var n (outputs_before c k)) ≡ unequal (good_truth k) (faulty_truth k)
      unfolding unequal
      difference_is k l o = h.difference k l o ∙ rw (good-is k l, faulty-is k l)

      model_detects : Detects c f n x
      model_detects =
          at_places (is_output c) (λ j. σ (difference_var n j) ≡ true → Detects c f n x) n
          (λ k l o e. record {
            line = k;
            inside = l;
            output = o;
            differ = unfold good_truth faulty_truth in unequal_differ (truth_at good c x n k) (truth_at (faulty f) c x n k) (sym (difference_is k l o) ∙ e);
          })
          h.some.0 h.some.1 h.some.2

    -- ---- the truths make one, where the vector detects the fault

    truthful : Assignment
    truthful = assigned n good_truth faulty_truth (λ j. unequal (good_truth (clause_place (is_output c) n j)) (faulty_truth (clause_place (is_output c) n j))) (eqb f.value 1)

    truthful_good : (k : ℕ) → k < n → truthful (good_var k) ≡ good_truth k
    unfolding truthful
    truthful_good = at_good n _ _ _ _

    truthful_faulty : (k : ℕ) → k < n → truthful (faulty_var k) ≡ faulty_truth k
    unfolding truthful
    truthful_faulty = at_faulty n _ _ _ _

    truthful_difference : (k : ℕ) → k < n → is_output c k ≡ true → truthful (difference_var n (outputs_before c k)) ≡ unequal (good_truth k) (faulty_truth k)
    unfolding truthful
    truthful_difference k l o = at_difference n _ _ _ _ (outputs_before c k) ∙ rw (place_is (is_output c) n k l o)

    truthful_models : Detects c f n x → Models c f n x truthful
    unfolding unequal truthful good_truth faulty_truth
    truthful_models d = record {
      good_column = same_column w good x truthful_good (truths_column good c x w);
      stuck = at_stuck n _ _ _ _;
      faulty_column = same_column w (faulty f) x truthful_faulty (truths_column (faulty f) c x w);
      difference = λ k l o. truthful_difference k l o ∙ rw (truthful_good k l, truthful_faulty k l);
      some = (
        outputs_before c d.line,
        count_below_lem (is_output c) d.line n d.inside d.output,
        truthful_difference d.line d.inside d.output ∙ differ_unequal _ _ d.differ,
      );
    }

  -- ---- the theorem, part by part

  extended : (x : Vector) → Detects c f n x → (σ : Assignment) × Extension c n x (words_of (clauses_of c f n)) σ
  extended x d = (truthful x, extension w f x (truthful x) (truthful_models x d))

  detected : (x : Vector) (σ : Assignment) → Extension c n x (words_of (clauses_of c f n)) σ → Detects c f n x
  detected x σ e = model_detects x σ (models w f x σ e)

  one_way : (x : Vector) (σ τ : Assignment) → Extension c n x (words_of (clauses_of c f n)) σ → Extension c n x (words_of (clauses_of c f n)) τ → SameTo (variables_of c n) σ τ
  one_way x σ τ p q =
      let s = models w f x σ p in
      let t = models w f x τ q in
      everywhere c n σ τ
      (λ k l. good-is x σ s k l ∙ sym (good-is x τ t k l))
      (λ k l. faulty-is x σ s k l ∙ sym (faulty-is x τ t k l))
      (s.stuck ∙ sym t.stuck)
      (λ k l o. difference_is x σ s k l o ∙ sym (difference_is x τ t k l o))

  -- a satisfying assignment extends its own inputs
  own_inputs : (σ : Assignment) → Satisfies σ (words_of (clauses_of c f n)) → Extension c n (vector_of c n σ) (words_of (clauses_of c f n)) σ
  unfolding vector_of
  own_inputs σ s = record { extends = λ k l e. rw (place_is (is_input c) n k l e); satisfies = s }

  redundant : ((σ : Assignment) → Satisfies σ (words_of (clauses_of c f n)) → ⊥) ↔ ((x : Vector) → Detects c f n x → ⊥)
  redundant = (
    (λ h x d. let s = extended x d in h s.0 s.1.satisfies),
    (λ h σ s. h (vector_of c n σ) (detected (vector_of c n σ) σ (own_inputs σ s))),
  )

pub faithful : (c : List ℕ) (f : Fault) → Good c → FaithfulWords c f (words_of (clauses_of c f (lines_of c))) (length (clauses_of c f (lines_of c))) (variables_of c (lines_of c))
faithful c f g = record {
  extended = extended c f g.well;
  detected = detected c f g.well;
  one_way = one_way c f g.well;
  redundant = redundant c f g.well;
  counted = ap length (list_decodes c f g.well);
  named = rw (list_decodes c f g.well) (list_variables c f g.well);
}
