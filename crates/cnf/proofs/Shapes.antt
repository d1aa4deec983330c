-- The rows of the clause_table but the selector's, as the code writes them: a buffer, an AND or a XOR with some literals negated.
-- Assumes nothing.
use mathlib.Core.Path.{◌≡◌, refl, ap, ◌∙◌}
use mathlib.Core.Bool.{Bool, true, false, not}
use mathlib.Core.List.{List, []}
use Prim.Native.Nat.{ℕ, zero, suc, ◌<◌}
use native.Mathlib.Omega.{arith}
use lib.Dec.{eqb, leb}
use lib.IntN.{ℤ}
use lib.ListN.{length}
use borrow.Author.Tests.{ne_eqb}
use Rattle.ground.specs.Choose.{choose}
use Rattle.gates.specs.Gate.{selector}
use Rattle.cnf.specs.Cnf.{words_of}
use Rattle.cnf.specs.Table.{clause_table, gate_clauses, sites}
use Rattle.cnf.specs.Owed.{signed, by_shape, shape_words, is_one_of, gate_words}
use Rattle.cnf.proofs.Gate.{no_clauses}

-- the words of a gate, where t says whether y is negated, and u whether a and b are
abbrev signed_words : ℕ → Bool → Bool → ℕ → ℕ → ℕ → List ℤ
signed_words kind t u y a b = shape_words kind (signed t y) (signed (not t) y) (signed u a) (signed (not u) a) (signed u b) (signed (not u) b)

shapes : (kind y a b s : ℕ) → kind < selector → gate_words kind (sites y a b s) ≡ choose (eqb kind 0) [] (signed_words kind (is_one_of kind 4 5 8) (is_one_of kind 2 5 6) y a b)
unfolding gate_clauses clause_table signed by_shape is_one_of
shapes zero y a b s h = refl
shapes (suc zero) y a b s h = refl
shapes (suc (suc zero)) y a b s h = refl
shapes (suc (suc (suc zero))) y a b s h = refl
shapes (suc (suc (suc (suc zero)))) y a b s h = refl
shapes (suc (suc (suc (suc (suc zero))))) y a b s h = refl
shapes (suc (suc (suc (suc (suc (suc zero)))))) y a b s h = refl
shapes (suc (suc (suc (suc (suc (suc (suc zero))))))) y a b s h = refl
shapes (suc (suc (suc (suc (suc (suc (suc (suc zero)))))))) y a b s h = refl
shapes (suc (suc (suc (suc (suc (suc (suc (suc (suc kind))))))))) y a b s h = absurd (omega arith)

pub no-shape : (kind y a b s : ℕ) → kind ≡ 0 → gate_words kind (sites y a b s) ≡ []
no-shape kind y a b s e = ap words_of (no_clauses kind (sites y a b s) e)

by_length : (kind : ℕ) (v w x : List ℤ) → length (by_shape kind v w x) ≡ by_shape kind (length v) (length w) (length x)
unfolding by_shape
by_length kind v w x = go (leb kind 2) (leb kind 6)
  where
    go : (s t : Bool) → length (choose s v (choose t w x)) ≡ choose s (length v) (choose t (length w) (length x))
    go true t = refl
    go false true = refl
    go false false = refl

module _ (kind y a b s : ℕ) (few : kind < selector) (some : kind ≡ 0 → ⊥) where
  pub shape_is : (t u : Bool) → t ≡ is_one_of kind 4 5 8 → u ≡ is_one_of kind 2 5 6 → gate_words kind (sites y a b s) ≡ signed_words kind t u y a b
  shape_is t u own pins = shapes kind y a b s few ∙ rw (ne_eqb kind 0 some, own, pins)

  pub shape-length : length (gate_words kind (sites y a b s)) ≡ by_shape kind 6 10 16
  shape-length = ap length (shape_is (is_one_of kind 4 5 8) (is_one_of kind 2 5 6) refl refl) ∙ by_length kind _ _ _
