-- The first X of a node: where it stands, and what setting it does.
-- Assumes nothing.
use mathlib.Core.Path.{◌≡◌, refl, sym, ap, ◌∙◌}
use mathlib.Core.Logic.{⊎_elim}
use mathlib.Core.Bool.{Bool, true, false, false≢true}
use mathlib.Core.List.{◌∷◌}
use Prim.Native.Nat.{ℕ, zero, suc, ◌≤◌, ◌<◌}
use native.Mathlib.Decide.{ℕ_discrete}
use native.Mathlib.Omega.{arith}
use lib.ListN.{length, get_or, take, set, length-set, length-replicate, get_or-replicate}
use lib.Seq.{get_or-set_same, get_or-set_other, set-set, set-get_or}
use borrow.Author.Tests.{eqb-true, eqb-false, eq-eqb, ne_eqb, not-true, not-false}
use Rattle.ground.specs.Below.{count_below}
use Rattle.ground.proofs.Tests.{either}
use Rattle.ground.proofs.Below.{some_any}
use Rattle.ground.proofs.Counting.{count_below_lem, count_more, any_count}
use Rattle.ground.proofs.First.{Lowest, Every, first_cases, first_is}
use Rattle.nodes.specs.Node.{Node, IsNode, start, is_x, is_set, count_x, first_x, FirstX}

-- ---- the first X

first_lowest : (s : Node) (at : ℕ) → FirstX s at → Lowest (is_set s) 0 (length s) at
first_lowest s at f = record {
  above = omega arith;
  inside = f.inside;
  bad = simp (eq-eqb _ 2 f.is);
  below = λ i a l. simp (ne_eqb _ 2 (f.below i l));
}

lowest_first : (s : Node) (at : ℕ) → Lowest (is_set s) 0 (length s) at → FirstX s at
lowest_first s at f = record {
  inside = f.inside;
  is = eqb-true _ 2 (not-false _ f.bad);
  below = λ i l. eqb-false _ 2 (not-true _ (f.below i (omega arith) l));
}

-- there is one where some input is X
pub first_x_lem : (s : Node) → 0 < count_x s → FirstX s (first_x s)
unfolding count_x first_x
first_x_lem s h = ⊎_elim (lowest_first s _) (λ a. absurd (none a.1)) (first_cases (length s) (is_set s))
  where
    none : Every (is_set s) 0 (length s) → ⊥
    none e =
        let k = some_any (length s) (is_x s) (any_count (length s) (is_x s) ∙ rw (ne_eqb (count_below (length s) (is_x s)) 0 (omega arith))) in
        let set : is_x s k.0 ≡ false = not-true _ (e k.0 (omega arith) k.1) in
        false≢true (sym set ∙ k.2)

pub found_first : {s : Node} {at : ℕ} → at ≡ first_x s → 0 < count_x s → FirstX s at
found_first {s} {at} e h = rw e (first_x_lem s h)

-- where a place inside is found, and where none is
pub x_inside : {s : Node} {at : ℕ} → at ≡ first_x s → at < length s → FirstX s at
unfolding first_x
x_inside {s} {at} e h = ⊎_elim (λ l. rw e (lowest_first s _ l)) (λ a. absurd (omega (arith, a.0))) (first_cases (length s) (is_set s))

pub x_nowhere : (s : Node) {at : ℕ} → at ≡ first_x s → length s ≤ at → count_x s ≡ 0
x_nowhere s e h = ⊎_elim (λ some. absurd (omega (arith, (found_first e some).inside))) (λ none. omega arith) (either 0 (count_x s))

pub x_is_first : {s : Node} {at : ℕ} → FirstX s at → at ≡ first_x s
unfolding first_x
x_is_first {s} {at} f = sym (first_is (length s) (is_set s) (first_lowest s at f))

pub some_x : {s : Node} {at : ℕ} → FirstX s at → 0 < count_x s
unfolding count_x
some_x {s} {at} f = let l = count_below_lem (is_x s) at (length s) f.inside (eq-eqb _ 2 f.is) in omega arith

-- ---- it is set

-- one X fewer
pub one_fewer : {v : ℕ} {s : Node} {at : ℕ} → (v ≡ 2 → ⊥) → FirstX s at → count_x s ≡ suc (count_x (set s at v))
unfolding count_x
one_fewer {v} {s} {at} d f =
    rw length-set (count_more (length s) (is_x (set s at v)) (is_x s) at f.inside
    (rw (get_or-set_same s at v 0 f.inside) (ne_eqb v 2 d))
    (λ q l n. rw (get_or-set_other s at q v 0 n)) ∙ rw (eq-eqb _ 2 f.is) (omega arith))

pub fewer : {v : ℕ} {s : Node} {at : ℕ} {k : ℕ} → v < 2 → FirstX s at → count_x s ≡ k → count_x (set s at v) < k
fewer {v} h f e = omega (arith, one_fewer {v = v} (λ q. omega arith) f)

pub set-again : (s : Node) (at : ℕ) {s0 : Node} (u v : ℕ) → s0 ≡ set s at u → set s0 at v ≡ set s at v
set-again s at u v e = rw e (set-set s at u v)

pub restored : {s s1 : Node} {at : ℕ} (v : ℕ) → FirstX s at → s1 ≡ set s at v → set s1 at 2 ≡ s
restored {s} {s1} {at} v f e = set-again s at v 2 e ∙ ap (set s at) (sym f.is) ∙ set-get_or s at 0

-- ---- nodes of n inputs

pub start_is : (n : ℕ) → IsNode n (start n)
start_is n = record { size = length-replicate n 2; bytes = λ i l. rw (get_or-replicate {A = ℕ} n i 2 0 l) (omega arith) }

-- the first part of a longer one
pub start_part : (n k : ℕ) → n ≤ k → take n (start k) ≡ start n
start_part zero k h = refl
start_part (suc n) zero h = absurd (omega arith)
start_part (suc n) (suc k) h = ap (λ (s : Node). 2 ∷ s) (start_part n k (omega arith))

pub set_is : {n : ℕ} {s : Node} (at v : ℕ) → v ≤ 2 → IsNode n s → IsNode n (set s at v)
set_is {n} {s} at v h k = record { size = length-set s at v ∙ k.size; bytes = λ i l. go i l (ℕ_discrete i at) }
  where
    go : (i : ℕ) → i < n → Dec (i ≡ at) → get_or (set s at v) i 0 ≤ 2
    go i l (yes e) = rw (e, get_or-set_same s at v 0 (omega (arith, k.size))) h
    go i l (no d) = rw (get_or-set_other s at i v 0 d) (k.bytes i l)

count_all : (n : ℕ) (t : ℕ → Bool) → ((k : ℕ) → k < n → t k ≡ true) → count_below n t ≡ n
unfolding count_below
count_all zero t h = refl
count_all (suc n) t h = rw (count_all n t (λ k l. h k (omega arith)), h n (omega arith)) (omega arith)

pub all_x : (n : ℕ) → count_x (start n) ≡ n
unfolding count_x
all_x n = rw length-replicate (count_all n (is_x (start n)) (λ i l. rw (get_or-replicate {A = ℕ} n i 2 0 l)))

-- without X every byte is 0 or 1
pub all_set : {n : ℕ} {s : Node} → IsNode n s → count_x s ≡ 0 → (i : ℕ) → i < length s → get_or s i 0 < 2
unfolding count_x
all_set {n} {s} k e i l = go (ℕ_discrete (get_or s i 0) 2)
  where
    go : Dec (get_or s i 0 ≡ 2) → get_or s i 0 < 2
    go (yes q) = absurd (omega (arith, count_below_lem (is_x s) i (length s) l (eq-eqb _ 2 q)))
    go (no d) = omega (arith, k.bytes i (rw k.size at l))
