-- How much the clauses of a gate take: by the kind alone, and little.
-- Assumes nothing.
use mathlib.Core.Path.{◌≡◌, refl, sym, ◌∙◌}
use mathlib.Core.Bool.{Bool, ◌&&◌}
use mathlib.Core.List.{List, [], ◌∷◌, ◌++◌, map}
use Prim.Native.Nat.{ℕ, zero, suc, ◌+◌, ◌≤◌}
use native.Mathlib.Omega.{arith}
use lib.Dec.{T, eqb, leb, eqb→eq, leb→le}
use lib.IntN.{pos}
use lib.ListN.{length, length-append, length-map}
use mir.Facts.{and_yes}
use Rattle.ground.specs.Choose.{choose}
use Rattle.ground.specs.Below.{all_below}
use Rattle.ground.specs.Lists.{gather}
use Rattle.ground.proofs.Below.{at_below}
use Rattle.gates.specs.Gate.{last_kind}
use Rattle.cnf.specs.declared.Size.{Size}
use Rattle.cnf.specs.Cnf.{Clauses, words_of}
use Rattle.cnf.specs.Table.{clause_table, word_of, gate_clauses}
use Rattle.cnf.specs.Owed.{by_shape, size_of, Takes}

pub words_length : (clauses : Clauses) → length (words_of clauses) ≡ size_of clauses
words_length [] = refl
words_length (clause ∷ clauses) = length-append clause (pos 0 ∷ words_of clauses) ∙ rw (words_length clauses)

size_map : {A B : Type 0} (f : A → B) (clauses : List (List A)) → size_of (map (map f) clauses) ≡ size_of clauses
size_map f [] = refl
size_map f (clause ∷ clauses) = rw (length-map clause f, size_map f clauses)

pub size_append : {A : Type 0} (a b : List (List A)) → size_of (a ++ b) ≡ size_of a + size_of b
size_append [] b = omega arith
size_append (clause ∷ a) b = rw (size_append a b) (omega arith)

-- how much some clauses are, in words or in clauses: nothing is 0, and lists add up
pub record Measure (measure : Clauses → ℕ) : Type 0 where
  pub none : measure [] ≡ 0
  pub add : (a b : Clauses) → measure (a ++ b) ≡ measure a + measure b

pub in_words : Measure (λ cs. size_of cs)
in_words = record { none = refl; add = size_append }

pub in_clauses : Measure (λ cs. length cs)
in_clauses = record { none = refl; add = length-append }

-- two lists for each number
pub measure_both : {measure : Clauses → ℕ} → Measure measure → (p q : ℕ → Clauses) (n : ℕ) → measure (gather (λ k. p k ++ q k) n) ≡ measure (gather p n) + measure (gather q n)
measure_both m p q zero = omega (arith, m.none)
measure_both m p q (suc n) = simp (m.add, measure_both m p q n) (omega arith)

module _ (kind : ℕ) (number : ℕ → ℕ) where
  pub gate_size : size_of (gate_clauses kind number) ≡ size_of (clause_table kind)
  unfolding gate_clauses
  gate_size = size_map (word_of number) (clause_table kind)

  pub gate-length : length (gate_clauses kind number) ≡ length (clause_table kind)
  unfolding gate_clauses
  gate-length = length-map (clause_table kind) (map (word_of number))

-- ---- by the kind

-- an input takes nothing, a gate what its shape does
unfoldable pub by_kind : ℕ → ℕ → ℕ → ℕ → ℕ
by_kind kind buffer and xor = choose (eqb kind 0) 0 (by_shape kind buffer and xor)

size_test : ℕ → Bool
size_test kind = eqb (size_of (clause_table kind)) (by_kind kind 6 10 16) && eqb (length (clause_table kind)) (by_kind kind 2 3 4)

few_test : ℕ → Bool
few_test kind = leb (size_of (clause_table kind)) 16 && leb (length (clause_table kind)) 4

size_all : T (all_below (suc last_kind) size_test)
unfolding size_test by_kind by_shape clause_table
size_all = tt

few_all : T (all_below (suc last_kind) few_test)
unfolding few_test clause_table
few_all = tt

module _ (kind : ℕ) (l : kind ≤ last_kind) where
  size_test_holds : T (size_test kind)
  size_test_holds = at_below (suc last_kind) size_test size_all kind (omega arith)

  pub takes : (r : Size) → r.words ≡ by_kind kind 6 10 16 → r.clauses ≡ by_kind kind 2 3 4 → Takes (clause_table kind) r
  unfolding size_test
  takes r p q =
      let h = and_yes (eqb (size_of (clause_table kind)) (by_kind kind 6 10 16)) _ size_test_holds in
      record { words = p ∙ sym (eqb→eq _ _ h.0); clauses = q ∙ sym (eqb→eq _ _ h.1) }

  pub few : (size_of (clause_table kind) ≤ 16) × (length (clause_table kind) ≤ 4)
  unfolding few_test
  few = let h = and_yes (leb (size_of (clause_table kind)) 16) _ (at_below (suc last_kind) few_test few_all kind (omega arith)) in (leb→le _ 16 h.0, leb→le _ 4 h.1)
