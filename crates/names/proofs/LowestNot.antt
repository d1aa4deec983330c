-- The lowest place at which a test fails, or 65,535: of places in a list, of two tests, and as a ruling.
-- Assumes nothing.
use mathlib.Core.Path.{◌≡◌, refl, sym, ◌∙◌}
use mathlib.Core.Logic.{◌⊎◌, inl, inr, ⊎_elim}
use mathlib.Core.Bool.{Bool, true, false, ◌&&◌, and-false}
use mathlib.Core.List.{List}
use Prim.Native.Nat.{ℕ, ◌≤◌, ◌<◌, min}
use native.Mathlib.Omega.{arith}
use lib.Dec.{ltb}
use lib.ListN.{get_or}
use borrow.Author.Tests.{lt-ltb, le-ltb}
use Rattle.ground.specs.Choose.{choose}
use Rattle.ground.specs.Below.{first_not}
use Rattle.ground.proofs.First.{first_is, first_none}
use Rattle.ground.proofs.Tests.{either}
use Rattle.answers.specs.Rules.{Ruling, said}
use Rattle.answers.specs.Rules.Rule.{each}
use Rattle.names.specs.Owed.{lowest}
use Rattle.names.proofs.Lowest.{Fails, lowest-least, lowest-one}
use Rattle.std.specs.Prelude.{Ok, Err}
use Rattle.answers.specs.declared.Reason.{Reason}

-- the test fails only below n, at r first; r is 65,535 where it fails nowhere
pub record LowestNot (n : ℕ) (test : ℕ → Bool) (r : ℕ) : Type 0 where
  pub inside : (i : ℕ) → test i ≡ false → i < n
  pub least : (i : ℕ) → test i ≡ false → r ≤ i
  pub one : r < 65535 → test r ≡ false

-- it fails at those of the first m places that fail f
pub lowest-not : {n : ℕ} {test : ℕ → Bool} (f : ℕ → Bool) (l : List ℕ) (m : ℕ)
    → ((k : ℕ) → k < m → get_or l k 0 < n)
    → ((i : ℕ) → Fails f l m i → test i ≡ false)
    → ((i : ℕ) → test i ≡ false → Fails f l m i)
    → LowestNot n test (lowest f l m)
lowest-not f l m within to from = record {
  inside = λ i e. let p = from i e in omega (arith, within p.0 p.1, p.3);
  least = λ i e. let p = from i e in omega (arith, lowest-least f l m p.0 p.1 p.2, p.3);
  one = λ h. to (lowest f l m) (lowest-one f l m h);
}

pub lowest-same : {n r : ℕ} {s u : ℕ → Bool} → ((i : ℕ) → s i ≡ u i) → LowestNot n s r → LowestNot n u r
lowest-same {r = r} e p = record {
  inside = λ i h. p.inside i (e i ∙ h);
  least = λ i h. p.least i (e i ∙ h);
  one = λ h. sym (e r) ∙ p.one h;
}

-- one test or the other
pub lowest_and : {n q r : ℕ} {s u : ℕ → Bool} → LowestNot n s q → LowestNot n u r → LowestNot n (λ i. s i && u i) (min q r)
lowest_and {n} {q} {r} {s} {u} a b = record {
  inside = λ i e. ⊎_elim (a.inside i) (b.inside i) (cases (s i) (u i) e);
  least = λ i e. ⊎_elim (λ h. omega (arith, a.least i h)) (λ h. omega (arith, b.least i h)) (cases (s i) (u i) e);
  one = λ h. go (either q r) h;
}
  where
    cases : (x y : Bool) → (x && y) ≡ false → (x ≡ false) ⊎ (y ≡ false)
    cases true y e = inr e
    cases false y e = inl refl

    go : (q < r) ⊎ (r ≤ q) → min q r < 65535 → (s (min q r) && u (min q r)) ≡ false
    go (inl l) h = let e : min q r ≡ q = omega arith in rw (e, a.one (omega arith))
    go (inr l) h = let e : min q r ≡ r = omega arith in rw (e, b.one (omega arith), and-false)

-- what a rule says that makes this test at each place
pub lowest_ruled : (m : Reason) (n : ℕ) (test : ℕ → Bool) (asked : ℕ → Type 0) {r : ℕ} → n ≤ 65535 → LowestNot n test r
    → choose (ltb r 65535) (Err (m, r)) (Ok tt) ≡ said (each m n test asked)
unfolding said
lowest_ruled m n test asked {r} few p = ⊎_elim found none (either r 65535)
  where
    holds : (j : ℕ) → (r ≤ j → ⊥) → test j ≡ true
    holds j h = go (test j) refl
      where
        go : (b : Bool) → test j ≡ b → b ≡ true
        go true e = refl
        go false e = absurd (h (p.least j e))

    found : r < 65535 → ◌≡◌ {A = Ruling} (choose (ltb r 65535) (Err (m, r)) (Ok tt)) (choose (ltb (first_not n test) n) (Err (m, first_not n test)) (Ok tt))
    found l =
        let below : r < n = p.inside r (p.one l) in
        let e : first_not n test ≡ r = first_is n test (record { above = omega arith; inside = below; bad = p.one l; below = λ j g b. holds j (λ q. omega arith) }) in
        rw (e, lt-ltb r 65535 l, lt-ltb r n below)

    none : 65535 ≤ r → ◌≡◌ {A = Ruling} (choose (ltb r 65535) (Err (m, r)) (Ok tt)) (choose (ltb (first_not n test) n) (Err (m, first_not n test)) (Ok tt))
    none l =
        let e : first_not n test ≡ n = first_none n test (λ j g b. holds j (λ q. omega arith)) in
        rw (e, le-ltb r 65535 l, le-ltb n n (omega arith))
