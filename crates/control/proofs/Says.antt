-- The promise and the words of the request and of paper 001 say the same.
-- Assumes nothing.
use mathlib.Core.Path.{◌≡◌, sym, ◌∙◌}
use mathlib.Core.Bool.{Bool, true, false}
use mathlib.Core.List.{List}
use Prim.Native.Nat.{ℕ, ◌≤◌, ◌<◌}
use native.Mathlib.Omega.{arith}
use lib.ListN.{length}
use lib.Seq.{ext_get_or}
use lib.Ieee.{Float, nan}
use Rattle.ground.specs.Lists.{table}
use Rattle.ground.proofs.Grow.{table-length, table_at}
use Rattle.answers.specs.Rules.{Ruling}
use Rattle.answers.specs.Rules.{AllSay}
use Rattle.answers.proofs.Rules.{applies, refused, both_fine, both_say}
use Rattle.answers.proofs.Lent.{lent_says}
use Rattle.answers.proofs.Words as words
use Rattle.circuit.specs.Record.{lines_of, inputs_of}
use Rattle.circuit.specs.Formed.{WellFormed}
use Rattle.circuit.specs.Promise.{circuit_rules}
use Rattle.circuit.proofs.Accepted.{good}
use Rattle.circuit.proofs.Says.{circuit_says}
use Rattle.halves.specs.Half.{half, floor_exponent}
use Rattle.halves.proofs.Value.{is-half, half-fits}
use Rattle.halves.proofs.Laws.{fraction_of}
use Rattle.exponents.specs.Fraction.{Fraction, Equal, power}
use Rattle.exponents.specs.Lines.{exponents}
use Rattle.exponents.specs.Words.{Measures}
use Rattle.exponents.proofs.Lines.{few}
use Rattle.exponents.proofs.Fraction.{bottom_is}
use Rattle.exponents.proofs.Words.{measured, measures}
use Rattle.control.specs.Promise.{control_rules, control_ruling, chances_of, Controls}
use Rattle.control.specs.Words.{Exactly, ChancesAre, ControlInWords}
use Rattle.std.specs.Prelude.{Ok}

pub control_says : (c : List ℕ) (ones zeros : ℕ) → AllSay (control_rules c ones zeros)
control_says c ones zeros = both_say (circuit_rules c) _ (circuit_says c) (lent_says (lines_of c) ones (lines_of c) zeros)

-- ---- a float is a chance exactly if it is that power of one half

is_chance : {e : ℕ} {p : Fraction} → e ≤ floor_exponent → Equal p (power e) → Exactly (half e) p
is_chance {e} {p} low is = record {
  float = half-fits e (omega arith);
  value = fraction_of e p.top p.bottom (bottom_is {p = p} (record { is = is }));
}

is-power : {x : Float} (e : ℕ) → Exactly x (power e) → x ≡ half e
is-power {x} e q = is-half x e q.float q.value

module _ {c : List ℕ} (well : WellFormed c (inputs_of c) (lines_of c)) (v : Bool) where
  the_chances : {chance : ℕ → Bool → Fraction} {at : ℕ → ℕ → Bool → Fraction} → Measures c (lines_of c) chance at → ChancesAre c v chance (chances_of c v)
  unfolding chances_of
  the_chances rules = record {
    long = table-length _ (lines_of c);
    are = λ k l. rw (table_at (λ k. half (exponents c (lines_of c) k v)) (lines_of c) nan k l) (is_chance (few well k l v) (measured well rules k l v));
  }

  only_chances : {chances : List Float} → ChancesAre c v (λ k w. power (exponents c (lines_of c) k w)) chances → chances ≡ chances_of c v
  unfolding chances_of
  only_chances {chances} q =
      let f : ℕ → Float = λ k. half (exponents c (lines_of c) k v) in
      ext_get_or nan chances (table f (lines_of c)) (q.long ∙ sym (table-length f (lines_of c)))
      (λ k l.
      let inside : k < lines_of c = omega (arith, q.long) in
      is-power (exponents c (lines_of c) k v) (q.are k inside) ∙ sym (table_at f (lines_of c) nan k inside))

-- ---- the whole

module _ (c : List ℕ) (ones zeros : List Float) where
  well : control_ruling c ones zeros ≡ Ok tt → WellFormed c (inputs_of c) (lines_of c)
  well e = (good c (both_fine (circuit_rules c) _ e).0).well

  module _ {r : Ruling} {ones' zeros' : List Float} where
    pub in_words : Controls c ones zeros r ones' zeros' → ControlInWords c ones zeros r ones' zeros'
    in_words d =
        let rules = control_rules c (length ones) (length zeros) in
        let says = control_says c (length ones) (length zeros) in
        record {
          refused = λ m k e. applies rules says m k (sym d.answer ∙ e);
          refuses = λ m k a. d.answer ∙ refused rules says m k a;
          nothing = λ m k e. (d.ones_are ∙ rw (sym d.answer ∙ e), d.zeros_are ∙ rw (sym d.answer ∙ e));
          made = λ e chance at m.
              let fine = sym d.answer ∙ e in
              let new : (ones' ≡ chances_of c true) × (zeros' ≡ chances_of c false) = (d.ones_are ∙ rw fine, d.zeros_are ∙ rw fine) in
              (rw new.0 (the_chances (well fine) true m), rw new.1 (the_chances (well fine) false m));
        }

    pub by_words : ControlInWords c ones zeros r ones' zeros' → Controls c ones zeros r ones' zeros'
    by_words i =
        let rules = control_rules c (length ones) (length zeros) in
        let says = control_says c (length ones) (length zeros) in
        let answer = words.by_words rules says i.refused i.refuses in
        record {
          answer = answer;
          numbers = rw answer;
          ones_are = words.memory_by_words rules says i.refused i.refuses (λ m k e. (i.nothing m k e).0)
              (λ q e. only_chances (well q) true (i.made e _ _ (measures (well q))).0);
          zeros_are = words.memory_by_words rules says i.refused i.refuses (λ m k e. (i.nothing m k e).1)
              (λ q e. only_chances (well q) false (i.made e _ _ (measures (well q))).1);
        }
