-- The clauses, read as equations: an assignment that extends a vector satisfies the words exactly if its columns are those of
-- the good and of the faulty circuit, each difference is one, and some difference is true.
-- Assumes nothing.
use mathlib.Core.Path.{◌≡◌, refl, sym, ◌∙◌}
use mathlib.Core.Bool.{Bool, true, false, not, beq, false≢true, or-false}
use mathlib.Core.List.{List, [], ◌∷◌}
use Prim.Native.Nat.{ℕ, zero, suc, ◌<◌}
use native.Mathlib.Omega.{arith}
use lib.Dec.{eqb}
use lib.IntN.{pos, neg_ℤ}
use Rattle.ground.specs.Choose.{choose}
use Rattle.ground.specs.Below.{any_below}
use Rattle.ground.proofs.Below.{any_some, some_any}
use Rattle.gates.specs.Boolean.{bool_gate}
use Rattle.circuit.specs.Record.{kind_at, pin_at, is_input, is_output, inputs_before, outputs_before}
use Rattle.circuit.specs.Formed.{WellFormed}
use Rattle.lists.specs.declared.Fault.{Fault}
use Rattle.simulate.specs.Boolean.{Vector, good, faulty}
use Rattle.cnf.specs.Lists.{any_of}
use Rattle.cnf.specs.Cnf.{Assignment, words_of, truth, satisfied}
use Rattle.cnf.proofs.Lists.{any_append}
use Rattle.cnf.proofs.Decode.{minus_truth}
use Rattle.line_clauses.specs.Clauses.{good_var, faulty_var, stuck_var, difference_var, good_clauses, difference_clauses, differences, clauses_of}
use Rattle.satisfied.specs.Satisfied.{Extension}
use Rattle.satisfied.proofs.Columns.{follows, Column}
use Rattle.satisfied.proofs.Lines.{good-gate_law, good-input_law, faulty_law, difference_law, no_difference}
use Rattle.satisfied.proofs.Parts.{to_parts, of_parts, list_decodes}

pub record Models (c : List ℕ) (f : Fault) (n : ℕ) (x : Vector) (σ : Assignment) : Type 0 where
  pub good_column : Column good c x n (λ k. σ (good_var k))
  pub stuck : σ (stuck_var n) ≡ eqb f.value 1
  pub faulty_column : Column (faulty f) c x n (λ k. σ (faulty_var k))
  pub difference : (k : ℕ) → k < n → is_output c k ≡ true → σ (difference_var n (outputs_before c k)) ≡ not (beq (σ (good_var k)) (σ (faulty_var k)))
  pub some : (j : ℕ) × (j < outputs_before c n) × (σ (difference_var n j) ≡ true)

beq_eq : (a b : Bool) → beq a b ≡ true → a ≡ b
beq_eq true true e = refl
beq_eq true false e = absurd (false≢true e)
beq_eq false true e = absurd (false≢true e)
beq_eq false false e = refl

eq_beq : (a b : Bool) → a ≡ b → beq a b ≡ true
eq_beq true true e = refl
eq_beq true false e = sym e
eq_beq false true e = e
eq_beq false false e = refl

module _ (σ : Assignment) where
  -- the stuck value's clause
  stuck-truth : (t : Bool) (n : ℕ) → truth σ (choose t (pos (stuck_var n)) (neg_ℤ (pos (stuck_var n)))) ≡ beq (σ (stuck_var n)) t
  stuck-truth true n = go (σ (stuck_var n))
    where
      go : (b : Bool) → b ≡ beq b true
      go true = refl
      go false = refl
  stuck-truth false n = minus_truth σ (stuck_var n) (omega arith) ∙ go (σ (stuck_var n))
    where
      go : (b : Bool) → not b ≡ beq b false
      go true = refl
      go false = refl

  -- the clause of all differences
  some_difference : (n m : ℕ) → any_of (truth σ) (differences n m) ≡ any_below m (λ j. σ (difference_var n j))
  some_difference n zero = refl
  some_difference n (suc m) = any_append (truth σ) (differences n m) (pos (difference_var n m) ∷ []) ∙ rw (some_difference n m, or-false)

module _ {c : List ℕ} {m n : ℕ} (w : WellFormed c m n) (f : Fault) (x : Vector) (σ : Assignment) where
  good-line : {k : ℕ} → k < n → (is_input c k ≡ true → σ (good_var k) ≡ x (inputs_before c k)) → satisfied σ (good_clauses c k) ≡ true → σ (good_var k) ≡ follows good c x (λ j. σ (good_var j)) k
  unfolding follows
  good-line {k} l input e = go (is_input c k) refl
    where
      go : (t : Bool) → is_input c k ≡ t → σ (good_var k) ≡ choose t (x (inputs_before c k)) (bool_gate (kind_at c k) (λ s. σ (good_var (pin_at c k s))))
      go true q = input q
      go false q = beq_eq _ _ (sym (good-gate_law σ w l q) ∙ e)

  line-good : {k : ℕ} → k < n → σ (good_var k) ≡ follows good c x (λ j. σ (good_var j)) k → (is_input c k ≡ true → σ (good_var k) ≡ x (inputs_before c k)) × (satisfied σ (good_clauses c k) ≡ true)
  unfolding follows
  line-good {k} l e = go (is_input c k) refl e
    where
      go : (t : Bool) → is_input c k ≡ t → σ (good_var k) ≡ choose t (x (inputs_before c k)) (bool_gate (kind_at c k) (λ s. σ (good_var (pin_at c k s))))
          → (is_input c k ≡ true → σ (good_var k) ≡ x (inputs_before c k)) × (satisfied σ (good_clauses c k) ≡ true)
      go true q e = ((λ p. e), good-input_law σ w l q)
      go false q e = ((λ p. absurd (false≢true (sym q ∙ p))), good-gate_law σ w l q ∙ eq_beq _ _ e)

  -- from satisfaction to the equations
  pub models : Extension c n x (words_of (clauses_of c f n)) σ → Models c f n x σ
  models h =
      let p = to_parts (any_of (truth σ)) c f n (rw (list_decodes c f w) at h.satisfies) in
      let stuck : σ (stuck_var n) ≡ eqb f.value 1 = beq_eq _ _ (sym (or-false _ ∙ stuck-truth σ (eqb f.value 1) n) ∙ p.stuck_clause) in
      record {
        good_column = record { line = λ k l. good-line l (h.extends k l) (p.goods k l) };
        stuck = stuck;
        faulty_column = record { line = λ k l. beq_eq _ _ (sym (faulty_law σ w x f stuck l (h.extends k l)) ∙ p.faulties k l) };
        difference = λ k l o. beq_eq _ _ (sym (difference_law σ c n k o) ∙ p.differences_each k l);
        some = some_any (outputs_before c n) (λ j. σ (difference_var n j)) (sym (some_difference σ n (outputs_before c n)) ∙ p.last_clause);
      }

  -- and back
  pub extension : Models c f n x σ → Extension c n x (words_of (clauses_of c f n)) σ
  extension h = record {
    extends = λ k l. (line-good l (h.good_column.line k l)).0;
    satisfies = rw (list_decodes c f w) (of_parts (any_of (truth σ)) c f n (record {
      goods = λ k l. (line-good l (h.good_column.line k l)).1;
      stuck_clause = or-false _ ∙ stuck-truth σ (eqb f.value 1) n ∙ eq_beq _ _ h.stuck;
      faulties = λ k l. faulty_law σ w x f h.stuck l (line-good l (h.good_column.line k l)).0 ∙ eq_beq _ _ (h.faulty_column.line k l);
      differences_each = differences-all;
      last_clause =
          some_difference σ n (outputs_before c n) ∙ any_some (outputs_before c n) (λ j. σ (difference_var n j)) h.some.0 h.some.1 h.some.2;
    }));
  }
    where
      differences-all : (k : ℕ) → k < n → satisfied σ (difference_clauses c n k) ≡ true
      differences-all k l = go (is_output c k) refl
        where
          go : (t : Bool) → is_output c k ≡ t → satisfied σ (difference_clauses c n k) ≡ true
          go true o = difference_law σ c n k o ∙ eq_beq _ _ (h.difference k l o)
          go false o = no_difference σ c n k o
