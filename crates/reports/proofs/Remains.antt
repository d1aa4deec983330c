-- Which faults remain: the test says the request's words, and neither the order of the reports nor repetition matters.
-- Assumes nothing.
use mathlib.Core.Path.{◌≡◌, refl, sym, ◌∙◌}
use mathlib.Core.Logic.{◌↔◌, inl, inr}
use mathlib.Core.Bool.{Bool, true, false, not, ◌&&◌, true≢false}
use mathlib.Core.List.{List, [], ◌∷◌, ◌++◌}
use Prim.Native.Nat.{ℕ, ◌<◌}
use lib.ListN.{get_or}
use borrow.Author.Tests.{eq-eqb, eqb-true, not-true}
use Rattle.ground.proofs.Tests.{both, and_both, same_test}
use Rattle.answers.specs.Rules.{Same}
use Rattle.reports.specs.Reports.{Report, speaks_against, remains}
use Rattle.reports.specs.Marks.{marks_of}
use Rattle.reports.specs.Words.{Among, Remains}
use Rattle.reports.proofs.Marks.{is-marked}

-- ---- the test goes by each report

pub none_speaks : (rs : List Report) (f : ℕ) → remains rs f ≡ true → (r : Report) → Among r rs → speaks_against r f ≡ false
unfolding remains
none_speaks [] f e r a = absurd a
none_speaks (q ∷ rs) f e r (inl is) = rw is (not-true _ (both (remains rs f) _ e).1)
none_speaks (q ∷ rs) f e r (inr a) = none_speaks rs f (both (remains rs f) _ e).0 r a

pub speaks_none : (rs : List Report) (f : ℕ) → ((r : Report) → Among r rs → speaks_against r f ≡ false) → remains rs f ≡ true
unfolding remains
speaks_none [] f h = refl
speaks_none (r ∷ rs) f h = and_both (speaks_none rs f (λ q a. h q (inr a))) (rw (h r (inl refl)))

-- one report more
pub remains-more : (rs : List Report) (r : Report) (f : ℕ) → remains (rs ++ (r ∷ [])) f ≡ (remains rs f && not (speaks_against r f))
unfolding remains
remains-more [] r f = refl
remains-more (q ∷ rs) r f = rw (remains-more rs r f) (swap (remains rs f) (not (speaks_against r f)) (not (speaks_against q f)))
  where
    swap : (a b c : Bool) → ((a && b) && c) ≡ ((a && c) && b)
    swap true true true = refl
    swap true true false = refl
    swap true false true = refl
    swap true false false = refl
    swap false b c = refl

-- two lists in which each report of the one is one of the other leave the same
pub same_remain : (rs qs : List Report)
    → ((r : Report) → Among r rs → Among r qs)
    → ((r : Report) → Among r qs → Among r rs)
    → (f : ℕ)
    → remains rs f ≡ remains qs f
same_remain rs qs there back f =
    same_test (remains rs f) (remains qs f)
    (λ e. speaks_none qs f (λ r a. none_speaks rs f e r (back r a)))
    (λ e. speaks_none rs f (λ r a. none_speaks qs f e r (there r a)))

-- ---- and says the words

module _ (rs : List Report) (f : ℕ) where
  in_words : remains rs f ≡ true → Remains rs f
  unfolding speaks_against
  in_words e = record {
    none_passes = λ r a failed is. true≢false (sym (eq-eqb _ _ (is ∙ rw failed)) ∙ none_speaks rs f e r a);
    none_fails = λ r a passed is. true≢false (sym (eq-eqb _ _ (is ∙ rw passed)) ∙ none_speaks rs f e r a);
  }

  by_words : Remains rs f → remains rs f ≡ true
  unfolding speaks_against
  by_words w = speaks_none rs f (λ r a. go r a r.failed refl (speaks_against r f) refl)
    where
      go : (r : Report) → Among r rs → (b : Bool) → r.failed ≡ b → (s : Bool) → speaks_against r f ≡ s → s ≡ false
      go r a true failed true e = absurd (w.none_passes r a failed (eqb-true _ _ e ∙ rw failed))
      go r a false passed true e = absurd (w.none_fails r a passed (eqb-true _ _ e ∙ rw passed))
      go r a b is false e = refl

  pub remains-same : Same (remains rs f) (Remains rs f)
  remains-same = record { holds = in_words; tests = by_words }

-- so of the marks of the faults that remain: set exactly if no pattern reported failed has the fault's entry pass and none reported passed has it fail
pub marks_words : (F : ℕ) (rs : List Report) (f : ℕ) → f < F → (get_or (marks_of F (remains rs)) f 0 ≡ 1) ↔ Remains rs f
marks_words F rs f l =
    let is = is-marked F (remains rs) f l in (
      λ e. (remains-same rs f).holds (sym is ∙ eq-eqb _ _ e),
      λ w. eqb-true _ _ (is ∙ (remains-same rs f).tests w),
    )
