-- What the clauses of a gate say: its own variable has the value of the Boolean gate. Proved once over the kinds, by a test that antt computes.
-- Assumes nothing.
use mathlib.Core.Path.{◌≡◌, refl, ap, ◌∙◌}
use mathlib.Core.Bool.{Bool, true, false, not, ◌&&◌, ◌||◌, beq}
use mathlib.Core.List.{List, [], ◌∷◌, map}
use Prim.Native.Nat.{ℕ, zero, suc, ◌≤◌}
use native.Mathlib.Omega.{arith}
use lib.Dec.{T, eqb, leb}
use lib.IntN.{pos, neg_ℤ}
use lib.ListN.{length, get_or}
use mir.Facts.{and_yes}
use borrow.Author.Tests.{ne_eqb, eqb-true, eqb-false, leb-true}
use Rattle.ground.specs.Below.{all_below}
use Rattle.ground.proofs.Below.{at_below}
use Rattle.ground.proofs.Tests.{T-is}
use Rattle.gates.specs.Gate.{last_kind, selector, pins_of}
use Rattle.gates.specs.Boolean.{bool_gate}
use Rattle.gates.proofs.Laws.{few_pins, two_pins}
use Rattle.cnf.specs.Lists.{any_of, all_of}
use Rattle.cnf.specs.Cnf.{Assignment, truth, satisfied, literal_to, variables_to}
use Rattle.cnf.specs.Table.{Literal, clause_table, word_of, gate_clauses}
use Rattle.cnf.proofs.Lists.{all_same, any_same, map_same, all_weaker, all_map}
use Rattle.cnf.proofs.Decode.{plus_literal, minus_literal, minus_truth}

-- ---- the sites that a row names: the gate itself and the pins that its kind has

site_of : Literal → ℕ
site_of (Literal.plus s) = s
site_of (Literal.minus s) = s

site_ok : ℕ → Literal → Bool
site_ok kind l = leb (site_of l) (pins_of kind)

sites_test : ℕ → Bool
sites_test kind = all_of (all_of (site_ok kind)) (clause_table kind)

sites-all : T (all_below (suc last_kind) sites_test)
unfolding sites_test site_ok site_of pins_of clause_table
sites-all = tt

sites_ok : (kind : ℕ) → kind ≤ last_kind → all_of (all_of (site_ok kind)) (clause_table kind) ≡ true
unfolding sites_test
sites_ok kind l = T-is _ (at_below (suc last_kind) sites_test sites-all kind (omega arith))

-- at each of them
abbrev pub AtSites : ℕ → (ℕ → Type 0) → Type 0
AtSites kind P = (s : ℕ) → s ≤ pins_of kind → P s

-- the third pin is the selector's alone
pub at_sites : (kind : ℕ) (P : ℕ → Type 0) → P 0 → P 1 → P 2 → (kind ≡ selector → P 3) → AtSites kind P
at_sites kind P own first second third zero h = own
at_sites kind P own first second third (suc zero) h = first
at_sites kind P own first second third (suc (suc zero)) h = second
at_sites kind P own first second third (suc (suc (suc zero))) h = go (eqb kind selector) refl
  where
    go : (t : Bool) → eqb kind selector ≡ t → P 3
    go true e = third (eqb-true kind selector e)
    go false e = absurd (omega (arith, h, two_pins kind (eqb-false kind selector e)))
at_sites kind P own first second third (suc (suc (suc (suc s)))) h = absurd (omega (arith, h, few_pins kind))

-- so at the site of a literal
of_literal : (kind : ℕ) {P : ℕ → Type 0} → AtSites kind P → (l : Literal) → site_ok kind l ≡ true → P (site_of l)
unfolding site_ok
of_literal kind h l e = h (site_of l) (leb-true (site_of l) (pins_of kind) e)

-- a gate's clauses depend on these alone
pub gate-sites : (kind : ℕ) (m n : ℕ → ℕ) → kind ≤ last_kind → AtSites kind (λ s. m s ≡ n s) → gate_clauses kind m ≡ gate_clauses kind n
unfolding gate_clauses site_of
gate-sites kind m n last same =
    map_same (all_of (site_ok kind)) (map (word_of m)) (map (word_of n)) (map_same (site_ok kind) (word_of m) (word_of n) words) (clause_table kind) (sites_ok kind last)
  where
    words : (l : Literal) → site_ok kind l ≡ true → word_of m l ≡ word_of n l
    words (Literal.plus s) e = ap pos (of_literal kind same (Literal.plus s) e)
    words (Literal.minus s) e = ap (λ (x : ℕ). neg_ℤ (pos x)) (of_literal kind same (Literal.minus s) e)

-- and name their variables alone
abbrev pub NumberTo : ℕ → ℕ → Type 0
NumberTo v n = (1 ≤ n) × (n ≤ v)

pub gate_variables : (v kind : ℕ) (number : ℕ → ℕ) → kind ≤ last_kind → AtSites kind (λ s. NumberTo v (number s)) → variables_to v (gate_clauses kind number) ≡ true
unfolding gate_clauses site_of
gate_variables v kind number last to =
    all_map (all_of (literal_to v)) (map (word_of number)) (clause_table kind) ∙ all_weaker (all_of (site_ok kind)) _ clause (clause_table kind) (sites_ok kind last)
  where
    literal : (l : Literal) → site_ok kind l ≡ true → literal_to v (word_of number l) ≡ true
    literal (Literal.plus s) e = let h = of_literal kind to (Literal.plus s) e in plus_literal v (number s) h.0 h.1
    literal (Literal.minus s) e = let h = of_literal kind to (Literal.minus s) e in minus_literal v (number s) h.0 h.1

    clause : (c : List Literal) → all_of (site_ok kind) c ≡ true → all_of (literal_to v) (map (word_of number) c) ≡ true
    clause c e = all_map (literal_to v) (word_of number) c ∙ all_weaker (site_ok kind) _ literal c e

-- ---- the rows, by the truths at the sites

truth_at : (ℕ → Bool) → Literal → Bool
truth_at x (Literal.plus s) = x s
truth_at x (Literal.minus s) = not (x s)

-- a test at all lists of n Booleans
at_all_lem : ℕ → (List Bool → Bool) → Bool
at_all_lem zero t = t []
at_all_lem (suc n) t = at_all_lem n (λ l. t (true ∷ l)) && at_all_lem n (λ l. t (false ∷ l))

at_all : (t : List Bool → Bool) (l : List Bool) → T (at_all_lem (length l) t) → T (t l)
unfolding at_all_lem
at_all t [] h = h
at_all t (true ∷ l) h = at_all (λ m. t (true ∷ m)) l (and_yes (at_all_lem (length l) (λ m. t (true ∷ m))) _ h).0
at_all t (false ∷ l) h = at_all (λ m. t (false ∷ m)) l (and_yes (at_all_lem (length l) (λ m. t (true ∷ m))) (at_all_lem (length l) (λ m. t (false ∷ m))) h).1

giving : List Bool → ℕ → Bool
giving l s = get_or l s false

row_test : ℕ → List Bool → Bool
row_test kind l = beq (all_of (any_of (truth_at (giving l))) (clause_table kind)) (beq (giving l 0) (bool_gate kind (giving l)))

rows_test : ℕ → Bool
rows_test kind = eqb kind 0 || at_all_lem 4 (row_test kind)

rows_all : T (all_below (suc last_kind) rows_test)
unfolding rows_test at_all_lem row_test giving truth_at clause_table bool_gate
rows_all = tt

beq-is : (a b : Bool) → T (beq a b) → a ≡ b
beq-is true true t = refl
beq-is true false t = absurd t
beq-is false true t = absurd t
beq-is false false t = refl

module _ (kind : ℕ) (x : ℕ → Bool) (some : 1 ≤ kind) (last : kind ≤ last_kind) where
  four : List Bool
  four = x 0 ∷ x 1 ∷ x 2 ∷ x 3 ∷ []

  given : AtSites kind (λ s. x s ≡ giving four s)
  unfolding four giving
  given = at_sites kind _ refl refl refl (λ _. refl)

  truth-is : (l : Literal) → site_ok kind l ≡ true → truth_at x l ≡ truth_at (giving four) l
  unfolding site_of truth_at
  truth-is (Literal.plus s) e = of_literal kind given (Literal.plus s) e
  truth-is (Literal.minus s) e = ap not (of_literal kind given (Literal.minus s) e)

  row_test_holds : T (row_test kind four)
  unfolding rows_test four
  row_test_holds = at_all (row_test kind) four (simp (ne_eqb kind 0 (omega arith)) at (at_below (suc last_kind) rows_test rows_all kind (omega arith)))

  row : all_of (any_of (truth_at x)) (clause_table kind) ≡ beq (x 0) (bool_gate kind x)
  unfolding row_test giving four bool_gate
  row =
      all_same (all_of (site_ok kind)) (any_of (truth_at x)) (any_of (truth_at (giving four)))
      (any_same (site_ok kind) (truth_at x) (truth_at (giving four)) truth-is) (clause_table kind) (sites_ok kind last)
      ∙ beq-is _ _ row_test_holds

-- ---- the law: an assignment satisfies a gate's clauses exactly if its own variable has the gate's value

module _ (σ : Assignment) (kind : ℕ) (number : ℕ → ℕ) (numbered : (s : ℕ) → 1 ≤ number s) where
  word-truth : (l : Literal) → truth σ (word_of number l) ≡ truth_at (λ s. σ (number s)) l
  unfolding truth_at
  word-truth (Literal.plus s) = refl
  word-truth (Literal.minus s) = minus_truth σ (number s) (numbered s)

  clause_truth : (c : List Literal) → any_of (truth σ) (map (word_of number) c) ≡ any_of (truth_at (λ s. σ (number s))) c
  clause_truth [] = refl
  clause_truth (l ∷ c) = rw (word-truth l, clause_truth c)

  clauses_truth : (cs : List (List Literal)) → satisfied σ (map (map (word_of number)) cs) ≡ all_of (any_of (truth_at (λ s. σ (number s)))) cs
  clauses_truth [] = refl
  clauses_truth (c ∷ cs) = rw (clause_truth c, clauses_truth cs)

  pub gate_law : 1 ≤ kind → kind ≤ last_kind → satisfied σ (gate_clauses kind number) ≡ beq (σ (number 0)) (bool_gate kind (λ s. σ (number s)))
  unfolding gate_clauses
  gate_law some last = clauses_truth (clause_table kind) ∙ row kind (λ s. σ (number s)) some last

-- an input has no clauses
pub no_clauses : (kind : ℕ) (number : ℕ → ℕ) → kind ≡ 0 → gate_clauses kind number ≡ []
unfolding gate_clauses clause_table
no_clauses kind number e = rw e
