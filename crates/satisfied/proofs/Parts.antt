-- A test over the clauses of the list is a test over each of its five parts; and the list names no variable above the last.
-- Assumes nothing.
use mathlib.Core.Path.{◌≡◌, refl, sym, ◌∙◌}
use mathlib.Core.Bool.{Bool, true, false, and-true}
use mathlib.Core.List.{List, [], ◌∷◌}
use Prim.Native.Nat.{ℕ, ◌≤◌, ◌<◌}
use native.Mathlib.Omega.{arith}
use lib.Dec.{eqb}
use lib.IntN.{ℤ, pos, neg_ℤ}
use Rattle.ground.specs.Choose.{choose}
use Rattle.ground.proofs.Tests.{both, and_both}
use Rattle.circuit.specs.Record.{outputs_before}
use Rattle.circuit.specs.Formed.{WellFormed}
use Rattle.lists.specs.declared.Fault.{Fault}
use Rattle.ground.specs.Lists.{gather}
use Rattle.cnf.specs.Lists.{all_of}
use Rattle.cnf.specs.Cnf.{decode, words_of, literal_to, variables_to}
use Rattle.cnf.proofs.Lists.{all_append, all-gather, gather-all}
use Rattle.cnf.proofs.Decode.{decode_words, plus_literal, minus_literal}
use Rattle.line_clauses.specs.Clauses.{stuck_var, difference_var, variables_of, stuck_literal, good_clauses, faulty_clauses, difference_clauses, differences, clauses_of}
use Rattle.satisfied.proofs.Lines.{good_variables, faulty_variables, difference_variables}

module _ (t : List ℤ → Bool) (c : List ℕ) (f : Fault) (n : ℕ) where
  pub record ClauseParts : Type 0 where
    pub goods : (k : ℕ) → k < n → all_of t (good_clauses c k) ≡ true
    pub stuck_clause : t (stuck_literal f n ∷ []) ≡ true
    pub faulties : (k : ℕ) → k < n → all_of t (faulty_clauses c f n k) ≡ true
    pub differences_each : (k : ℕ) → k < n → all_of t (difference_clauses c n k) ≡ true
    pub last_clause : t (differences n (outputs_before c n)) ≡ true

  pub to_parts : all_of t (clauses_of c f n) ≡ true → ClauseParts
  unfolding clauses_of
  to_parts e =
      let h1 = both (all_of t (gather (good_clauses c) n)) _ (sym (all_append t (gather (good_clauses c) n) _) ∙ e) in
      let h2 = both (t (stuck_literal f n ∷ [])) _ h1.1 in
      let h3 = both (all_of t (gather (faulty_clauses c f n) n)) _ (sym (all_append t (gather (faulty_clauses c f n) n) _) ∙ h2.1) in
      let h4 = both (all_of t (gather (difference_clauses c n) n)) _ (sym (all_append t (gather (difference_clauses c n) n) _) ∙ h3.1) in
      record {
        goods = gather-all t (good_clauses c) n h1.0;
        stuck_clause = h2.0;
        faulties = gather-all t (faulty_clauses c f n) n h3.0;
        differences_each = gather-all t (difference_clauses c n) n h4.0;
        last_clause = sym (and-true _) ∙ h4.1;
      }

  pub of_parts : ClauseParts → all_of t (clauses_of c f n) ≡ true
  unfolding clauses_of
  of_parts p =
      all_append t (gather (good_clauses c) n) _
      ∙ and_both (all-gather t (good_clauses c) n p.goods)
      (and_both p.stuck_clause
      (all_append t (gather (faulty_clauses c f n) n) _
      ∙ and_both (all-gather t (faulty_clauses c f n) n p.faulties)
      (all_append t (gather (difference_clauses c n) n) _
      ∙ and_both (all-gather t (difference_clauses c n) n p.differences_each) (and-true _ ∙ p.last_clause))))

-- ---- the variables

module _ (c : List ℕ) (f : Fault) {m n : ℕ} (w : WellFormed c m n) where
  stuck_variable : literal_to (variables_of c n) (stuck_literal f n) ≡ true
  stuck_variable = go (eqb f.value 1)
    where
      go : (t : Bool) → literal_to (variables_of c n) (choose t (pos (stuck_var n)) (neg_ℤ (pos (stuck_var n)))) ≡ true
      go true = plus_literal (variables_of c n) (stuck_var n) (omega arith) (omega arith)
      go false = minus_literal (variables_of c n) (stuck_var n) (omega arith) (omega arith)

  differences_variables : (j : ℕ) → j ≤ outputs_before c n → all_of (literal_to (variables_of c n)) (differences n j) ≡ true
  differences_variables j h =
      all-gather (literal_to (variables_of c n)) (λ i. pos (difference_var n i) ∷ []) j (λ i l. and_both (plus_literal (variables_of c n) (difference_var n i) (omega arith) (omega arith)) refl)

  pub list_variables : variables_to (variables_of c n) (clauses_of c f n) ≡ true
  list_variables =
      of_parts (all_of (literal_to (variables_of c n))) c f n
      (record {
        goods = λ k l. good_variables w l;
        stuck_clause = and_both stuck_variable refl;
        faulties = λ k l. faulty_variables w l f;
        differences_each = λ k l. difference_variables w l;
        last_clause = differences_variables (outputs_before c n) (omega arith);
      })

  -- so the words decode to the clauses
  pub list_decodes : decode (words_of (clauses_of c f n)) ≡ clauses_of c f n
  list_decodes = decode_words (variables_of c n) (clauses_of c f n) list_variables
