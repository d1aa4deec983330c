-- The promise and the request's words say the same.
-- Assumes nothing.
use mathlib.Core.Path.{◌≡◌, refl, sym, ap, ◌∙◌}
use mathlib.Core.List.{List}
use Prim.Native.Nat.{ℕ}
use lib.ListN.{length}
use Rattle.answers.specs.Rules.{Ruling}
use Rattle.answers.specs.Rules.{unless, Applies}
use Rattle.answers.specs.Answer.{answered}
use Rattle.answers.proofs.Rules.{applies, refused, not_fine, same_good}
use Rattle.answers.proofs.Answer as answer
use Rattle.answers.proofs.Answer.{ruling_of, was_ruled}
use Rattle.states.specs.Rules.{lines_after}
use Rattle.unfolded.specs.Unfolded.{unfolded}
use Rattle.unfolded.proofs.Words.{unfolded_words, words_unfolded}
use Rattle.unfold.specs.declared.Unfolding.{Unfolding}
use Rattle.unfold.specs.Promise.{unfold_rules, unfold_ruling, unfolding_is, UnfoldingMade}
use Rattle.unfold.specs.Words.{UnfoldingInWords}
use Rattle.unfold.proofs.Answer.{unfold_says, unfold_taken, by_rules}
use Rattle.std.specs.Prelude.{Ok, Err, Result}
use Rattle.answers.specs.declared.Refusal.{Refusal}
use Rattle.answers.specs.declared.Reason.{Reason}

module _ {c st : List ℕ} {k : ℕ} {u : List ℕ} {r : Result Unfolding Refusal} {u' : List ℕ} where
  module _ (d : UnfoldingMade c st k u r u') where
    was : {v : Ruling} → ruling_of r ≡ v → unfold_ruling c st k u ≡ v
    was says = was_ruled _ d.answer says

    -- a refusal is the first that applies, with the lowest place; and where one applies, it is given
    module _ (reason : Reason) (place : ℕ) where
      pub refused_applies : r ≡ Err (reason, place) → Applies (unfold_rules c st k (length u)) reason place
      refused_applies = answer.refused_applies _ _ (unfold_says c st k (length u)) d.answer reason place

      pub applies_refused : Applies (unfold_rules c st k (length u)) reason place → r ≡ Err (reason, place)
      applies_refused = answer.applies_refused _ _ (unfold_says c st k (length u)) d.answer reason place

    -- the promise meets the words
    pub in_words : UnfoldingInWords c st k u r u'
    in_words = record {
      refused = refused_applies;
      refuses = applies_refused;
      nothing = λ x y e. d.buffer ∙ rw (was (ap ruling_of e));
      made = λ n e.
          let fine : unfold_ruling c st k u ≡ Ok tt = was (ap ruling_of e) in
          let so : unfolding_is n ≡ unfolding_is (lines_after c k) = same_good (sym e ∙ d.answer ∙ rw fine) in
          let t = unfold_taken c st k (length u) fine in
          let new : u' ≡ unfolded c st k = d.buffer ∙ rw fine in
          (ap (λ (a : Unfolding). a.lines) so, rw new (unfolded_words t.clocked.circuit_fine t.clocked.steps));
    }

  -- and what meets the words keeps the promise
  pub by_words : UnfoldingInWords c st k u r u' → UnfoldingMade c st k u r u'
  by_words i = by_rules (record { answer = told (unfold_ruling c st k u) refl r refl; memory = held (unfold_ruling c st k u) refl r refl })
    where
      -- where no rule applies, nothing is refused
      not_refused : unfold_ruling c st k u ≡ Ok tt → (x : Reason) (y : ℕ) → r ≡ Err (x, y) → ⊥
      not_refused q x y e = not_fine (sym q ∙ refused (unfold_rules c st k (length u)) (unfold_says c st k (length u)) x y (i.refused x y e))

      -- where one does, it is given
      given : (x : Reason) (y : ℕ) → unfold_ruling c st k u ≡ Err (x, y) → r ≡ Err (x, y)
      given x y q = i.refuses x y (applies (unfold_rules c st k (length u)) (unfold_says c st k (length u)) x y q)

      told : (v : Ruling) → unfold_ruling c st k u ≡ v → (a : Result Unfolding Refusal) → r ≡ a → r ≡ answered v (unfolding_is (lines_after c k))
      told (Ok _) q (Ok a) e = e ∙ ap (λ n. Ok (unfolding_is n)) (i.made a.lines e).0
      told (Ok _) q (Err why) e = absurd (not_refused q why.0 why.1 e)
      told (Err why) q a e = given why.0 why.1 q

      held : (v : Ruling) → unfold_ruling c st k u ≡ v → (a : Result Unfolding Refusal) → r ≡ a → u' ≡ unless v u (unfolded c st k)
      held (Ok _) q (Ok a) e =
          let t = unfold_taken c st k (length u) q in
          words_unfolded t.clocked.circuit_fine t.clocked.steps (i.made a.lines e).1
      held (Ok _) q (Err why) e = absurd (not_refused q why.0 why.1 e)
      held (Err why) q a e = i.nothing why.0 why.1 (given why.0 why.1 q)
