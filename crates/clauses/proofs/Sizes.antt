-- How much the list takes.
-- Assumes nothing.
use mathlib.Core.Path.{◌≡◌, refl, sym, ap, ◌∙◌}
use mathlib.Core.Bool.{Bool, true, false}
use mathlib.Core.List.{List, [], ◌∷◌, ◌++◌}
use Prim.Native.Nat.{ℕ, zero, suc, ◌+◌, ◌*◌, ◌≤◌, ◌<◌}
use native.Mathlib.Nat.{mul-zero, mul-one, mul-add}
use native.Mathlib.Numerals.{add-one}
use native.Mathlib.Omega.{arith}
use lib.IntN.{pos}
use lib.ListN.{length, length-append}
use Rattle.ground.specs.Choose.{choose, one}
use Rattle.ground.specs.Below.{count_below}
use Rattle.circuit.specs.Record.{is_output, outputs_before}
use Rattle.lists.specs.declared.Fault.{Fault}
use Rattle.cnf.specs.declared.Size.{Size}
use Rattle.ground.specs.Lists.{gather}
use Rattle.cnf.specs.Cnf.{Clauses}
use Rattle.cnf.specs.Table.{clause_table, gate_clauses}
use Rattle.cnf.specs.Owed.{size_of, Takes}
use Rattle.cnf.proofs.Sizes.{size_append, Measure, in_words, in_clauses, measure_both}
use Rattle.line_clauses.specs.Clauses.{difference_var, good_var, faulty_var, good_clauses, faulty_clauses, xor_clauses, difference_clauses, differences, clauses_of}
use Rattle.line_clauses.specs.Owed.{LineSizeDone}

-- ---- the loop: what the first k lines take

abbrev both : List ℕ → Fault → ℕ → ℕ → Clauses
both c f n k = good_clauses c k ++ faulty_clauses c f n k

pub record SizeSoFar (c : List ℕ) (f : Fault) (n words clauses k : ℕ) : Type 0 where
  pub at_most : k ≤ n
  pub words_are : words ≡ size_of (gather (both c f n) k)
  pub clauses_are : clauses ≡ length (gather (both c f n) k)
  pub few_words : words ≤ 32 * k
  pub few_clauses : clauses ≤ 8 * k

pub size_none : (c : List ℕ) (f : Fault) (n : ℕ) → SizeSoFar c f n 0 0 0
size_none c f n = record { at_most = omega arith; words_are = refl; clauses_are = refl; few_words = omega arith; few_clauses = omega arith }

module _ {c : List ℕ} {f : Fault} {n words clauses k : ℕ} (so : SizeSoFar c f n words clauses k) where
  pub size_more : {r : Size} → k < n → LineSizeDone c f n k r → SizeSoFar c f n (words + r.words) (clauses + r.clauses) (k + 1)
  size_more {r} l p = record {
    at_most = omega arith;
    words_are = rw (add-one, size_append, so.words_are, p.takes.words);
    clauses_are = rw (add-one, length-append, so.clauses_are, p.takes.clauses);
    few_words = omega (arith, so.few_words, p.few_words);
    few_clauses = omega (arith, so.few_clauses, p.few_clauses);
  }

-- ---- the differences: so much for each output

module _ {measure : Clauses → ℕ} (m : Measure measure) (much : ℕ) (xor : (number : ℕ → ℕ) → measure (gate_clauses 7 number) ≡ much) (c : List ℕ) (n : ℕ) where
  at_line : (k : ℕ) → measure (difference_clauses c n k) ≡ much * one (is_output c k)
  unfolding difference_clauses
  at_line k = go (is_output c k)
    where
      go : (t : Bool) → measure (choose t (xor_clauses (difference_var n (outputs_before c k)) (good_var k) (faulty_var k)) []) ≡ much * one t
      go true = xor _ ∙ sym (mul-one much)
      go false = m.none ∙ sym (mul-zero much)

  at_outputs : (k : ℕ) → measure (gather (difference_clauses c n) k) ≡ much * outputs_before c k
  unfolding count_below
  at_outputs zero = m.none ∙ sym (mul-zero much)
  at_outputs (suc k) = m.add (gather (difference_clauses c n) k) (difference_clauses c n k) ∙ rw (at_outputs k, at_line k, mul-add)

xor_words_lem : (number : ℕ → ℕ) → size_of (gate_clauses 7 number) ≡ 16
unfolding gate_clauses clause_table
xor_words_lem number = refl

xor_clauses_lem : (number : ℕ → ℕ) → length (gate_clauses 7 number) ≡ 4
unfolding gate_clauses clause_table
xor_clauses_lem number = refl

pub differences-length : (n m : ℕ) → length (differences n m) ≡ m
differences-length n zero = refl
differences-length n (suc m) = length-append (differences n m) (pos (difference_var n m) ∷ []) ∙ rw (differences-length n m, add-one)

-- ---- the whole

pub whole_takes : {c : List ℕ} {f : Fault} {n words clauses k outputs : ℕ} → SizeSoFar c f n words clauses k → n ≤ k → outputs ≡ outputs_before c n
    → Takes (clauses_of c f n) (record { words = words + 17 * outputs + 3; clauses = clauses + 4 * outputs + 2 })
unfolding clauses_of
whole_takes {c} {f} {n} {words} {clauses} {k} {outputs} so l o =
    let e : k ≡ n = omega (arith, so.at_most) in
    let w : words ≡ size_of (gather (both c f n) n) = so.words_are ∙ ap (λ (i : ℕ). size_of (gather (both c f n) i)) e in
    let t : clauses ≡ length (gather (both c f n) n) = so.clauses_are ∙ ap (λ (i : ℕ). length (gather (both c f n) i)) e in
    record {
      words =
          simp (size_append, at_outputs in_words 16 xor_words_lem c n n, differences-length) (omega (arith, measure_both in_words (good_clauses c) (faulty_clauses c f n) n));
      clauses = simp (length-append, at_outputs in_clauses 4 xor_clauses_lem c n n) (omega (arith, measure_both in_clauses (good_clauses c) (faulty_clauses c f n) n));
    }
