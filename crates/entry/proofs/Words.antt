-- The entry's definition says what the paper's words say, for every test that says what it is to say.
-- Assumes nothing.
use mathlib.Core.Path.{◌≡◌, refl}
use mathlib.Core.Bool.{Bool, true, false, not, ◌&&◌, ◌||◌, false≢true}
use mathlib.Core.List.{List}
use Prim.Native.Nat.{ℕ, ◌≤◌, ◌<◌}
use native.Mathlib.Omega.{arith}
use lib.Dec.{eqb}
use lib.ListN.{get_or}
use borrow.Author.Tests.{eqb-true, eq-eqb}
use Rattle.ground.specs.Choose.{choose}
use Rattle.ground.proofs.Tests.{both, and_both, T-is, is_T}
use Rattle.ground.proofs.Below.{at_below, every_all, any_some, some_any}
use Rattle.answers.specs.Rules.{Same}
use Rattle.answers.proofs.Same.{lt_same, eq_same, and_same, never_same, where_same}
use Rattle.gates.specs.Gate.{known}
use Rattle.circuit.specs.Record.{is_output}
use Rattle.simulate.specs.Simulate.{Forcing, values_to}
use Rattle.simulate.specs.Work.{good_of}
use Rattle.tables.specs.Entries.{pass, fail, unknown}
use Rattle.entry.specs.Entry.{Test, differ, agree, as_expected, some_output, every_output, entry_by, entry_of, entry_under}
use Rattle.entry.specs.Words.{Differ, Agree, AsExpected, SomeOutput, EveryOutput, Chosen, EntryBy, Entry}

-- ---- the tests

pub differ_says : (a b : ℕ) → Same (differ a b) (Differ a b)
unfolding differ
differ_says a b = record {
  holds = λ e. let h = said.holds e in record { good_known = h.0; faulty_known = h.1.0; differ = h.1.1 };
  tests = λ d. said.tests (d.good_known, (d.faulty_known, d.differ));
}
  where
    said : Same (differ a b) ((a < 2) × ((b < 2) × (a ≡ b → ⊥)))
    said = and_same (lt_same a 2) (and_same (lt_same b 2) (never_same (eqb a b) (eq_same a b)))

pub agree_says : (a b : ℕ) → Same (agree a b) (Agree a b)
unfolding agree
agree_says a b = record {
  holds = λ e. let h = said.holds e in record { good_known = h.0; faulty_known = h.1.0; equal = h.1.1 };
  tests = λ d. said.tests (d.good_known, (d.faulty_known, d.equal));
}
  where
    said : Same (agree a b) ((a < 2) × ((b < 2) × (a ≡ b)))
    said = and_same (lt_same a 2) (and_same (lt_same b 2) (eq_same a b))

pub expected_says : (a b : ℕ) → Same (as_expected a b) (AsExpected a b)
unfolding as_expected
expected_says a b = where_same (known a) (lt_same a 2) (agree_says a b)

-- ---- at some output, at every output

module _ (t : Test) (P : ℕ → ℕ → Type 0) (says : (a b : ℕ) → Same (t a b) (P a b)) (c g f : List ℕ) (n : ℕ) where
  pub some_says : Same (some_output t c g f n) (SomeOutput P c g f n)
  some_says = record {
    holds = λ e.
        let w = some_any n (λ k. is_output c k && t (get_or g k 0) (get_or f k 0)) e in
        let h = both (is_output c w.0) _ w.2 in
        (w.0, record { inside = w.1; output = eqb-true _ 1 h.0; holds = (says _ _).holds h.1 });
    tests = λ w.
        any_some n (λ k. is_output c k && t (get_or g k 0) (get_or f k 0)) w.0 w.1.inside
        (and_both (eq-eqb _ 1 w.1.output) ((says _ _).tests w.1.holds));
  }

  pub every_says : Same (every_output t c g f n) (EveryOutput P c g f n)
  every_says = record {
    holds = λ e k l out. (says _ _).holds (at-it k (T-is _ (at_below n _ (is_T _ e) k l)) (eq-eqb _ 1 out));
    tests = λ h. T-is _ (every_all n _ (λ k l. is_T _ (it k (is_output c k) refl (λ q. (says _ _).tests (h k l (eqb-true _ 1 q))))));
  }
    where
      at-it : (k : ℕ) → (not (is_output c k) || t (get_or g k 0) (get_or f k 0)) ≡ true → is_output c k ≡ true → t (get_or g k 0) (get_or f k 0) ≡ true
      at-it k e q = simp q at e

      it : (k : ℕ) (b : Bool) → is_output c k ≡ b → (is_output c k ≡ true → t (get_or g k 0) (get_or f k 0) ≡ true) → (not b || t (get_or g k 0) (get_or f k 0)) ≡ true
      it k true q h = h q
      it k false q h = refl

-- ---- the entry

-- a choice by two tests of which not both hold
chosen : (d p : Bool) {F P : Type 0} → Same d F → Same p P → (F → P → ⊥) → Chosen F P (choose d fail (choose p pass unknown))
chosen true p s u apart = record {
  is_fail = λ _. refl;
  is_pass = λ h. absurd (apart (s.holds refl) h);
  is_unknown = λ no _. absurd (no (s.holds refl));
}
chosen false true s u apart = record {
  is_fail = λ h. absurd (false≢true (s.tests h));
  is_pass = λ _. refl;
  is_unknown = λ _ no. absurd (no (u.holds refl));
}
chosen false false s u apart = record {
  is_fail = λ h. absurd (false≢true (s.tests h));
  is_pass = λ h. absurd (false≢true (u.tests h));
  is_unknown = λ _ _. refl;
}

one_choice : (d p : Bool) {F P : Type 0} {e : ℕ} → Same d F → Same p P → Chosen F P e → e ≡ choose d fail (choose p pass unknown)
one_choice true p s u h = h.is_fail (s.holds refl)
one_choice false true s u h = h.is_pass (u.holds refl)
one_choice false false s u h = h.is_unknown (λ a. false≢true (s.tests a)) (λ a. false≢true (u.tests a))

-- and read backwards
pub chose_fail : (d p : Bool) → choose d fail (choose p pass unknown) ≡ fail → d ≡ true
chose_fail true p e = refl
chose_fail false true e = absurd (omega arith)
chose_fail false false e = absurd (omega arith)

chose_pass : (d p : Bool) → choose d fail (choose p pass unknown) ≡ pass → p ≡ true
chose_pass true p e = absurd (omega arith)
chose_pass false true e = refl
chose_pass false false e = absurd (omega arith)

-- a test that agreement passes and difference does not, and its words
pub record Passes (t : Test) (P : ℕ → ℕ → Type 0) : Type 0 where
  pub says : (a b : ℕ) → Same (t a b) (P a b)
  pub apart : (a b : ℕ) → Differ a b → P a b → ⊥
  pub covers : (a b : ℕ) → Agree a b → P a b

pub agree-passes : Passes agree Agree
agree-passes = record { says = agree_says; apart = λ a b d h. d.differ h.equal; covers = λ a b h. h }

pub expected_passes : Passes as_expected AsExpected
expected_passes = record { says = expected_says; apart = λ a b d h. d.differ (h d.good_known).equal; covers = λ a b h _. h }

pub entry_three : (t : Test) (c g f : List ℕ) (n : ℕ) → entry_by t c g f n ≤ 2
unfolding entry_by
entry_three t c g f n = go (some_output differ c g f n) (every_output t c g f n)
  where
    go : (d p : Bool) → choose d fail (choose p pass unknown) ≤ 2
    go true p = omega arith
    go false true = omega arith
    go false false = omega arith

pub entry_small : (f : Forcing) (c p : List ℕ) (n : ℕ) → entry_under f c p n ≤ 2
unfolding entry_under
entry_small f c p n = entry_three as_expected c (good_of c p n) (values_to f c p n) n

module _ {t : Test} {P : ℕ → ℕ → Type 0} (passes : Passes t P) (c g f : List ℕ) (n : ℕ) where
  some : Same (some_output differ c g f n) (SomeOutput Differ c g f n)
  some = some_says differ Differ differ_says c g f n

  every : Same (every_output t c g f n) (EveryOutput P c g f n)
  every = every_says t P passes.says c g f n

  pub fail-some : entry_by t c g f n ≡ fail → SomeOutput Differ c g f n
  unfolding entry_by
  fail-some e = some.holds (chose_fail (some_output differ c g f n) (every_output t c g f n) e)

  pub pass_every : entry_by t c g f n ≡ pass → EveryOutput P c g f n
  unfolding entry_by
  pass_every e = every.holds (chose_pass (some_output differ c g f n) (every_output t c g f n) e)

  -- the definition meets the words
  pub entry_words : EntryBy P c g f n (entry_by t c g f n)
  unfolding entry_by
  entry_words =
      chosen (some_output differ c g f n) (every_output t c g f n) some every
      (λ w all. passes.apart _ _ w.1.holds (all w.0 w.1.inside w.1.output))

  -- and what meets the words is the definition
  pub words_entry : {e : ℕ} → EntryBy P c g f n e → e ≡ entry_by t c g f n
  unfolding entry_by
  words_entry = one_choice (some_output differ c g f n) (every_output t c g f n) some every

-- of the dictionary's entry
module _ (c g f : List ℕ) (n : ℕ) where
  pub entry_says : Entry c g f n (entry_of c g f n)
  entry_says = entry_words expected_passes c g f n

  pub says_entry : {e : ℕ} → Entry c g f n e → e ≡ entry_of c g f n
  says_entry = words_entry expected_passes c g f n
