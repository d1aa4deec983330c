-- The refusal that the tests compute is the one that the paper's words give.
-- Assumes nothing.
use mathlib.Core.Path.{◌≡◌, refl, sym, ap, ◌∙◌}
use mathlib.Core.Logic.{◌⊎◌, inl, inr, ⊎_elim}
use mathlib.Core.Bool.{Bool, true, false, true≢false}
use mathlib.Core.List.{List, [], ◌∷◌, ◌++◌}
use Prim.Native.Nat.{ℕ, ◌≤◌}
use native.Mathlib.Omega.{arith}
use borrow.Author.Tests.{lt-ltb, le-ltb}
use Rattle.ground.specs.Below.{first_not}
use Rattle.ground.proofs.First.{first_cases}
use Rattle.ground.proofs.Tests.{either}
use Rattle.answers.specs.Rules.{Rule, or_else, said, refusal, reason_of, Breaks, Applies, Holds, AllHold, Same, Says, AllSay}
use Rattle.answers.specs.Rules.Rule.{whole, each}
use Rattle.answers.specs.Rules.{Ruling}
use Rattle.std.specs.Prelude.{Ok, Err, Result}
use Rattle.answers.specs.declared.Reason.{Reason}
use Rattle.answers.specs.declared.Refusal.{Refusal}

-- what is asked does not hold where its test fails
fails : {test : Bool} {asked : Type 0} → Same test asked → test ≡ false → asked → ⊥
fails s e a = true≢false (sym (s.tests a) ∙ e)

-- a rule is broken, k being its lowest place, and then it says so; or it holds, and says nothing
record Broken (r : Rule) (k : ℕ) : Type 0 where
  breaks : Breaks r k
  lowest : (j : ℕ) → Breaks r j → k ≤ j
  says : said r ≡ Err (reason_of r, k)

record Kept (r : Rule) : Type 0 where
  holds : Holds r
  never : (j : ℕ) → Breaks r j → ⊥
  silent : said r ≡ Ok tt

rule_cases : (r : Rule) → Says r → ((k : ℕ) × Broken r k) ⊎ Kept r
unfolding said
rule_cases (whole m test asked p) s = go test refl
  where
    go : (t : Bool) → test ≡ t → ((k : ℕ) × Broken (whole m test asked p) k) ⊎ Kept (whole m test asked p)
    go true e = inr (record { holds = s.holds e; never = λ j b. b.1 (s.holds e); silent = simp e })
    go false e = inl (p, record { breaks = (refl, fails s e); lowest = λ j b. omega (arith, b.0); says = simp e })
rule_cases (each m n test asked) s =
    ⊎_elim
    (λ l. inl (
      first_not n test,
      record {
        breaks = (l.inside, fails (s _ l.inside) l.bad);
        lowest = λ j b. ⊎_elim (λ h. absurd (b.1 ((s j b.0).holds (l.below j (omega arith) h)))) (λ h. h) (either j (first_not n test));
        says = simp (lt-ltb (first_not n test) n l.inside);
      },
    ))
    (λ a. inr (record {
      holds = λ k h. (s k h).holds (a.1 k (omega arith) h);
      never = λ j b. b.1 ((s j b.0).holds (a.1 j (omega arith) b.0));
      silent = simp (le-ltb (first_not n test) n (omega (arith, a.0)));
    }))
    (first_cases n test)

pub or_fine : (v : Ruling) → or_else v (Ok tt) ≡ v
or_fine (Ok u) = refl
or_fine (Err why) = refl

-- two good answers that are the same have one good case
pub same_good : {A : Type 0} {x y : A} → ◌≡◌ {A = Result A Refusal} (Ok x) (Ok y) → x ≡ y
same_good e = cc

-- two refusals that are the same have one reason and one place
module _ {A : Type 0} {x y : Refusal} (e : ◌≡◌ {A = Result A Refusal} (Err x) (Err y)) where
  pub same_refusal : x ≡ y
  same_refusal = cc

  pub same_reason : x.0 ≡ y.0
  same_reason = ap (λ (why : Refusal). why.0) same_refusal

  pub same_place : x.1 ≡ y.1
  same_place = ap (λ (why : Refusal). why.1) same_refusal

pub not_fine : {why : Refusal} → ◌≡◌ {A = Ruling} (Ok tt) (Err why) → ⊥
not_fine e = cc

-- what is refused is the first that applies, with the lowest place
pub applies : (rules : List Rule) → AllSay rules → (m : Reason) (k : ℕ) → refusal rules ≡ Err (m, k) → Applies rules m k
unfolding refusal Applies AllSay
applies [] s m k e = not_fine e
applies (r ∷ rules) (s, ss) m k e = go (rule_cases r s) (applies rules ss m k)
  where
    go : ((l : ℕ) × Broken r l) ⊎ Kept r → (refusal rules ≡ Err (m, k) → Applies rules m k) → Applies (r ∷ rules) m k
    go (inl (l, b)) ih =
        let q : ◌≡◌ {A = Ruling} (Err (reason_of r, l)) (Err (m, k)) = sym (ap (λ (v : Ruling). or_else v (refusal rules)) b.says) ∙ e in
        let place : l ≡ k = same_place q in
        inl (sym (same_reason q), rw (← place) b.breaks, rw (← place) b.lowest)
    go (inr a) ih = inr (a.never, ih (sym (ap (λ (v : Ruling). or_else v (refusal rules)) a.silent) ∙ e))

-- and the first that applies, with the lowest place, is refused
pub refused : (rules : List Rule) → AllSay rules → (m : Reason) (k : ℕ) → Applies rules m k → refusal rules ≡ Err (m, k)
unfolding refusal Applies AllSay
refused [] s m k g = absurd g
refused (r ∷ rules) (s, ss) m k g = go (rule_cases r s) (refused rules ss m k) g
  where
    go : ((l : ℕ) × Broken r l) ⊎ Kept r → (Applies rules m k → refusal rules ≡ Err (m, k)) → Applies (r ∷ rules) m k → or_else (said r) (refusal rules) ≡ Err (m, k)
    go (inl (l, b)) ih (inl (e, h, low)) =
        let u = b.lowest k h in
        let v = low l b.breaks in
        let q : l ≡ k = omega arith in
        rw (b.says, e, q)
    go (inl (l, b)) ih (inr (never, h)) = absurd (never l b.breaks)
    go (inr a) ih (inl (e, h, low)) = absurd (a.never k h)
    go (inr a) ih (inr (never, h)) = rw a.silent (ih h)

-- so whatever gives the ruling of its rules refuses exactly when one applies, with the first that does and its lowest place
module _ (rules : List Rule) (says : AllSay rules) {r : Ruling} (is : r ≡ refusal rules) (reason : Reason) (place : ℕ) where
  pub refused_applies : r ≡ Err (reason, place) → Applies rules reason place
  refused_applies e = applies rules says reason place (sym is ∙ e)

  pub applies_refused : Applies rules reason place → r ≡ Err (reason, place)
  applies_refused a = is ∙ refused rules says reason place a

-- nothing is refused exactly if all that is asked holds
pub all_hold : (rules : List Rule) → AllSay rules → refusal rules ≡ Ok tt → AllHold rules
unfolding refusal AllHold AllSay
all_hold [] s e = tt
all_hold (r ∷ rules) (s, ss) e = go (rule_cases r s) (all_hold rules ss)
  where
    go : ((l : ℕ) × Broken r l) ⊎ Kept r → (refusal rules ≡ Ok tt → AllHold rules) → Holds r × AllHold rules
    go (inl (l, b)) ih = absurd (not_fine (sym e ∙ ap (λ (v : Ruling). or_else v (refusal rules)) b.says))
    go (inr a) ih = (a.holds, ih (sym (ap (λ (v : Ruling). or_else v (refusal rules)) a.silent) ∙ e))

pub fine : (rules : List Rule) → AllSay rules → AllHold rules → refusal rules ≡ Ok tt
unfolding refusal AllHold AllSay
fine [] s a = refl
fine (r ∷ rules) (s, ss) (h, a) = go r h (rule_cases r s) (fine rules ss a)
  where
    go : (r : Rule) → Holds r → ((l : ℕ) × Broken r l) ⊎ Kept r → refusal rules ≡ Ok tt → or_else (said r) (refusal rules) ≡ Ok tt
    go (whole m test asked p) h (inl (l, b)) ih = absurd (b.breaks.1 h)
    go (each m n test asked) h (inl (l, b)) ih = absurd (b.breaks.1 (h l b.breaks.0))
    go (whole m test asked p) h (inr k) ih = rw k.silent ih
    go (each m n test asked) h (inr k) ih = rw k.silent ih

-- ---- rules in two lists are checked one list after the other

pub in_order : (rules more : List Rule) → refusal (rules ++ more) ≡ or_else (refusal rules) (refusal more)
unfolding refusal
in_order [] more = refl
in_order (r ∷ rules) more = go (said r) (in_order rules more)
  where
    go : (v : Ruling) → refusal (rules ++ more) ≡ or_else (refusal rules) (refusal more) → or_else v (refusal (rules ++ more)) ≡ or_else (or_else v (refusal rules)) (refusal more)
    go (Ok u) ih = ih
    go (Err why) ih = refl

pub after_refused : (rules more : List Rule) {why : Refusal} → refusal rules ≡ Err why → refusal (rules ++ more) ≡ Err why
after_refused rules more e = in_order rules more ∙ rw e

pub after_fine : (rules more : List Rule) → refusal rules ≡ Ok tt → refusal (rules ++ more) ≡ refusal more
after_fine rules more e = in_order rules more ∙ rw e

-- of the rules behind others only their ruling matters
pub same_after : (rules more more₂ : List Rule) → refusal more ≡ refusal more₂ → refusal (rules ++ more) ≡ refusal (rules ++ more₂)
same_after rules more more₂ e = in_order rules more ∙ ap (λ (v : Ruling). or_else (refusal rules) v) e ∙ sym (in_order rules more₂)

pub both_fine : (rules more : List Rule) → refusal (rules ++ more) ≡ Ok tt → (refusal rules ≡ Ok tt) × (refusal more ≡ Ok tt)
both_fine rules more e = go (refusal rules) refl (sym (in_order rules more) ∙ e)
  where
    go : (v : Ruling) → refusal rules ≡ v → or_else v (refusal more) ≡ Ok tt → (refusal rules ≡ Ok tt) × (refusal more ≡ Ok tt)
    go (Ok u) q e = (q, e)
    go (Err why) q e = absurd (not_fine (sym e))

pub both_say : (rules more : List Rule) → AllSay rules → AllSay more → AllSay (rules ++ more)
unfolding AllSay
both_say [] more s t = t
both_say (r ∷ rules) more (s, ss) t = (s, both_say rules more ss t)
