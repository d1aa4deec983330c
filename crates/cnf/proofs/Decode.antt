-- Words decode to the clauses that they were made of; an assignment counts only at the variables that they name.
-- Assumes nothing.
use mathlib.Core.Path.{◌≡◌, refl, ap, ◌∙◌}
use mathlib.Core.Bool.{true, not, false≢true}
use mathlib.Core.List.{List, [], ◌∷◌, ◌++◌, append_assoc, append-nil}
use Prim.Native.Nat.{ℕ, zero, suc, ◌≤◌}
use native.Mathlib.Omega.{arith}
use lib.Dec.{leb}
use lib.IntN.{ℤ, pos, negsuc, neg_ℤ}
use borrow.Author.Tests.{leb-true, le-leb}
use Rattle.ground.specs.Lists.{gather}
use Rattle.ground.proofs.Tests.{both}
use Rattle.cnf.specs.Lists.{any_of, all_of}
use Rattle.cnf.specs.Cnf.{Assignment, Clauses, decode_from, decode, words_of, truth, satisfied, literal_to, variables_to}
use Rattle.cnf.proofs.Lists.{any_same, all_same}

pub words_append : (a b : Clauses) → words_of (a ++ b) ≡ words_of a ++ words_of b
words_append [] b = refl
words_append (clause ∷ a) b = rw (words_append a b, append_assoc)

pub words_gather : (piece : ℕ → Clauses) (n : ℕ) → words_of (gather piece n) ≡ gather (λ k. words_of (piece k)) n
words_gather piece zero = refl
words_gather piece (suc n) = words_append (gather piece n) (piece n) ∙ rw (words_gather piece n)

-- ---- a number is a literal, and so is its negation

module _ (v n : ℕ) (some : 1 ≤ n) (most : n ≤ v) where
  pub plus_literal : literal_to v (pos n) ≡ true
  plus_literal = go n some most
    where
      go : (n : ℕ) → 1 ≤ n → n ≤ v → literal_to v (pos n) ≡ true
      go zero h l = absurd (omega arith)
      go (suc n) h l = le-leb (suc n) v l

  pub minus_literal : literal_to v (neg_ℤ (pos n)) ≡ true
  minus_literal = go n some most
    where
      go : (n : ℕ) → 1 ≤ n → n ≤ v → literal_to v (neg_ℤ (pos n)) ≡ true
      go zero h l = absurd (omega arith)
      go (suc n) h l = le-leb (suc n) v l

pub minus_truth : (σ : Assignment) (n : ℕ) → 1 ≤ n → truth σ (neg_ℤ (pos n)) ≡ not (σ n)
minus_truth σ zero h = absurd (omega arith)
minus_truth σ (suc n) h = refl

-- ---- no literal is 0, so each 0 closes a clause

module _ (v : ℕ) where
  decode_clause : (begun clause words : List ℤ) → all_of (literal_to v) clause ≡ true → decode_from begun (clause ++ (pos 0 ∷ words)) ≡ (begun ++ clause) ∷ decode words
  unfolding decode_from
  decode_clause begun [] words e = rw append-nil
  decode_clause begun (pos zero ∷ clause) words e = absurd (false≢true e)
  decode_clause begun (pos (suc n) ∷ clause) words e =
      decode_clause (begun ++ (pos (suc n) ∷ [])) clause words (both (leb (suc n) v) (all_of (literal_to v) clause) e).1 ∙ rw append_assoc
  decode_clause begun (negsuc n ∷ clause) words e =
      decode_clause (begun ++ (negsuc n ∷ [])) clause words (both (leb (suc n) v) (all_of (literal_to v) clause) e).1 ∙ rw append_assoc

  pub decode_words : (clauses : Clauses) → variables_to v clauses ≡ true → decode (words_of clauses) ≡ clauses
  unfolding decode_from
  decode_words [] e = refl
  decode_words (clause ∷ clauses) e =
      let h = both (all_of (literal_to v) clause) (variables_to v clauses) e in
      decode_clause [] clause (words_of clauses) h.0 ∙ rw (decode_words clauses h.1)

  -- ---- two assignments that agree at the variables 1 to v

  module _ (σ τ : Assignment) (agree : (n : ℕ) → 1 ≤ n → n ≤ v → σ n ≡ τ n) where
    truth-agree : (z : ℤ) → literal_to v z ≡ true → truth σ z ≡ truth τ z
    truth-agree (pos zero) e = absurd (false≢true e)
    truth-agree (pos (suc n)) e = agree (suc n) (omega arith) (leb-true (suc n) v e)
    truth-agree (negsuc n) e = ap not (agree (suc n) (omega arith) (leb-true (suc n) v e))

    pub satisfied-agree : (clauses : Clauses) → variables_to v clauses ≡ true → satisfied σ clauses ≡ satisfied τ clauses
    satisfied-agree clauses e =
        all_same (all_of (literal_to v)) (any_of (truth σ)) (any_of (truth τ)) (any_same (literal_to v) (truth σ) (truth τ) truth-agree) clauses e
