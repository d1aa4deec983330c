-- An assignment satisfies words exactly if certain variables are the true ones: it is enough to compute it for every set of true variables.
-- Assumes nothing.
use mathlib.Core.Path.{◌≡◌, refl, sym, ◌∙◌, subst}
use mathlib.Core.Logic.{◌↔◌, ⊎_elim}
use mathlib.Core.Bool.{Bool, true, false, ◌&&◌, ◌||◌, false≢true, and-true, and-false, or-false}
use mathlib.Core.List.{List, [], ◌∷◌, ◌++◌, append-nil}
use Prim.Native.Nat.{ℕ, zero, suc, ◌≤◌, ◌<◌}
use native.Mathlib.Nat.{eq-or-lt_of_le}
use native.Mathlib.Omega.{arith}
use lib.Dec.{eqb}
use lib.IntN.{ℤ}
use borrow.Author.Tests.{eq-eqb, ne_eqb, eqb-true}
use Rattle.ground.specs.Choose.{choose, one}
use Rattle.ground.proofs.Tests.{both, one_same}
use Rattle.cnf.specs.Lists.{any_of}
use Rattle.cnf.specs.Cnf.{Assignment, decode, satisfied, Satisfies, variables_to}
use Rattle.cnf.proofs.Lists.{any_append}
use Rattle.cnf.proofs.Decode.{satisfied-agree}
use Rattle.marked.specs.Example.{true_to}

-- ---- every set of the variables 1 to v

abbrev every_set : ℕ → (List ℕ → Bool) → Bool
every_set zero t = t []
every_set (suc v) t = every_set v t && every_set v (λ vs. t (vs ++ (suc v ∷ [])))

-- the true variables of an assignment are one of them
one_of : (v : ℕ) (t : List ℕ → Bool) (σ : Assignment) → every_set v t ≡ true → t (true_to v σ) ≡ true
one_of zero t σ e = e
one_of (suc v) t σ e =
    let h = both (every_set v t) (every_set v (λ vs. t (vs ++ (suc v ∷ [])))) e in
    go (σ (suc v)) (one_of v t σ h.0) (one_of v (λ vs. t (vs ++ (suc v ∷ []))) σ h.1)
  where
    go : (b : Bool) → t (true_to v σ) ≡ true → t (true_to v σ ++ (suc v ∷ [])) ≡ true → t (true_to v σ ++ choose b (suc v ∷ []) []) ≡ true
    go true p q = q
    go false p q = rw append-nil p

-- ---- only these variables are true

abbrev only : List ℕ → Assignment
only vs n = any_of (eqb n) vs

if_true : (n k : ℕ) (b : Bool) → any_of (eqb n) (choose b (k ∷ []) []) ≡ (b && eqb n k)
if_true n k true = or-false (eqb n k)
if_true n k false = refl

module _ (σ : Assignment) where
  next : (v n : ℕ) → only (true_to (suc v) σ) n ≡ (only (true_to v σ) n || (σ (suc v) && eqb n (suc v)))
  next v n = any_append (eqb n) (true_to v σ) (choose (σ (suc v)) (suc v ∷ []) []) ∙ rw (if_true n (suc v) (σ (suc v)))

  above : (v n : ℕ) → v < n → only (true_to v σ) n ≡ false
  above zero n h = refl
  above (suc v) n h = next v n ∙ simp (above v n (omega arith), ne_eqb n (suc v) (omega arith), and-false)

  last : (v : ℕ) → only (true_to (suc v) σ) (suc v) ≡ σ (suc v)
  last v = next v (suc v) ∙ simp (above v (suc v) (omega arith), eq-eqb (suc v) (suc v) refl, and-true)

  -- for an assignment's own true variables this is the assignment again
  again : (v n : ℕ) → 1 ≤ n → n ≤ v → only (true_to v σ) n ≡ σ n
  again zero n h l = absurd (omega arith)
  again (suc v) n h l =
      ⊎_elim (λ e. subst (λ k. only (true_to (suc v) σ) k ≡ σ k) (sym e) (last v))
      (λ m. next v n ∙ simp (again v n h (omega arith), ne_eqb n (suc v) (omega arith), and-false, or-false))
      (eq-or-lt_of_le l)

-- ---- lists of numbers compared

same : List ℕ → List ℕ → Bool
same [] [] = true
same [] (b ∷ k) = false
same (a ∷ l) [] = false
same (a ∷ l) (b ∷ k) = eqb a b && same l k

same-is : (l k : List ℕ) → same l k ≡ true → l ≡ k
unfolding same
same-is [] [] e = refl
same-is [] (b ∷ k) e = absurd (false≢true e)
same-is (a ∷ l) [] e = absurd (false≢true e)
same-is (a ∷ l) (b ∷ k) e = let h = both (eqb a b) (same l k) e in rw (eqb-true a b h.0, same-is l k h.1)

same_self : (l : List ℕ) → same l l ≡ true
unfolding same
same_self [] = refl
same_self (a ∷ l) = simp (eq-eqb a a refl, same_self l)

-- ---- of all sets of the variables 1 to v, only vs satisfies the words

unfoldable pub only_solution : ℕ → List ℤ → List ℕ → Bool
unfolding same
only_solution v words vs = every_set v (λ s. eqb (one (satisfied (only s) (decode words))) (one (same s vs)))

pub solved : (v : ℕ) (words : List ℤ) (vs : List ℕ)
    → variables_to v (decode words) ≡ true
    → only_solution v words vs ≡ true
    → (σ : Assignment) → Satisfies σ words ↔ (true_to v σ ≡ vs)
unfolding only_solution same
solved v words vs h q σ = (λ s. same-is (true_to v σ) vs (sym e ∙ s), λ r. e ∙ rw r (same_self vs))
  where
    e : satisfied σ (decode words) ≡ same (true_to v σ) vs
    e =
        sym (satisfied-agree v (only (true_to v σ)) σ (again σ v) (decode words) h)
        ∙ one_same (satisfied (only (true_to v σ)) (decode words)) (same (true_to v σ) vs)
        (eqb-true _ _ (one_of v (λ s. eqb (one (satisfied (only s) (decode words))) (one (same s vs))) σ q))
