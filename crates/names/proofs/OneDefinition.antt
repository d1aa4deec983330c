-- Where refusal 15 is not given, each name that is used has one definition, and its number is that definition's.
-- Assumes nothing.
use mathlib.Core.Path.{◌≡◌, refl, sym, ◌∙◌}
use mathlib.Core.Logic.{⊎_elim}
use mathlib.Core.Bool.{true}
use mathlib.Core.List.{List}
use Prim.Native.Nat.{ℕ, suc, ◌-◌, ◌<◌}
use native.Mathlib.Omega.{arith}
use lib.ListN.{length, get_or}
use Rattle.ground.specs.Lists.{elem}
use Rattle.ground.proofs.Elem.{elem_at}
use Rattle.ground.proofs.Tests.{either}
use Rattle.answers.specs.Rules.{refusal, AllHold}
use Rattle.answers.proofs.Rules.{all_hold}
use Rattle.words.specs.Words.{word_at}
use Rattle.words.proofs.Same.{same_eq, same_refl}
use Rattle.names.specs.Names.{named, definition, name_number, Names, NameOk, name_rules}
use Rattle.names.specs.Owed.{Within}
use Rattle.names.proofs.Last.{last_only}
use Rattle.names.proofs.Says.{names_say}
use Rattle.std.specs.Prelude.{Ok}

module _ (t defs uses : List ℕ) (fine : refusal (name_rules t defs uses) ≡ Ok tt) where
  names_ok : (i : ℕ) → i < length t → NameOk t defs uses i
  unfolding name_rules AllHold
  names_ok = (all_hold (name_rules t defs uses) (names_say t defs uses) fine).0

  -- a name that is used at byte i is defined
  pub used_at : (i : ℕ) → i < length t → elem uses i ≡ true → (d : ℕ) × (d < length defs) × Names t defs i d
  used_at i l e = (names_ok i l).known e

  pub used-defined : Within t uses → (k : ℕ) → k < length uses → (d : ℕ) × (d < length defs) × Names t defs (get_or uses k 0) d
  used-defined within k l = used_at (get_or uses k 0) (within k l) (elem_at uses k l)

  module _ (within : Within t defs) where
    -- no definition stands before another of the same name
    not_before : (d e : ℕ) → d < length defs → e < d → word_at t (get_or defs e 0) ≡ word_at t (get_or defs d 0) → ⊥
    not_before d e l m q = (names_ok (get_or defs d 0) (within d l)).first d l refl e m q

    -- two definitions of the same name are one
    pub one-definition : (d e : ℕ) → d < length defs → e < length defs → word_at t (get_or defs d 0) ≡ word_at t (get_or defs e 0) → d ≡ e
    one-definition d e l m q =
        ⊎_elim
        (λ h. absurd (not_before e d m h q))
        (λ h. ⊎_elim (λ g. absurd (not_before d e l g (sym q))) (λ g. omega arith) (either e d))
        (either d e)

    module _ (d : ℕ) (l : d < length defs) where
      -- and the one that is found
      pub definition-is : (w : List ℕ) → word_at t (get_or defs d 0) ≡ w → definition t defs (length defs) w ≡ suc d
      unfolding definition
      definition-is w q =
          last_only (named t defs w) (length defs) d l (rw q (same_refl w))
          (λ e m p. one-definition e d m l (same_eq (word_at t (get_or defs e 0)) w p ∙ sym q))

      pub number_of : (numbers : List ℕ) (i : ℕ) → word_at t (get_or defs d 0) ≡ word_at t i → name_number t defs numbers i ≡ get_or numbers d 0
      unfolding name_number
      number_of numbers i q = let e : definition t defs (length defs) (word_at t i) - 1 ≡ d = omega (arith, definition-is (word_at t i) q) in rw e
