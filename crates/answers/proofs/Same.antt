-- Tests on numbers and tests made of others, and what they say.
-- Assumes nothing.
use mathlib.Core.Path.{◌≡◌, refl}
use mathlib.Core.Bool.{Bool, true, false, not, ◌&&◌, ◌||◌, false≢true}
use mathlib.Core.List.{List}
use Prim.Native.Nat.{ℕ, ◌≤◌, ◌<◌}
use lib.Dec.{eqb, leb, ltb}
use lib.ListN.{get_or}
use borrow.Author.Tests.{eqb-true, leb-true, ltb-true, eq-eqb, le-leb, lt-ltb}
use Rattle.ground.specs.Below.{any_below}
use Rattle.ground.proofs.Tests.{both, and_both}
use Rattle.ground.proofs.Below.{any_some, some_any}
use Rattle.answers.specs.Rules.{Same}
use Rattle.answers.specs.Small.{small_ok, Small}

pub le_same : (a b : ℕ) → Same (leb a b) (a ≤ b)
le_same a b = record { holds = leb-true a b; tests = le-leb a b }

pub lt_same : (a b : ℕ) → Same (ltb a b) (a < b)
lt_same a b = record { holds = ltb-true a b; tests = lt-ltb a b }

pub eq_same : (a b : ℕ) → Same (eqb a b) (a ≡ b)
eq_same a b = record { holds = eqb-true a b; tests = eq-eqb a b }

pub and_same : {s t : Bool} {A B : Type 0} → Same s A → Same t B → Same (s && t) (A × B)
and_same {s} {t} p q = record {
  holds = λ e. let h = both s t e in (p.holds h.0, q.holds h.1);
  tests = λ a. and_both (p.tests a.0) (q.tests a.1);
}

-- at some number
pub some_same : (n : ℕ) {t : ℕ → Bool} {A : ℕ → Type 0} → ((k : ℕ) → Same (t k) (A k)) → Same (any_below n t) ((k : ℕ) × (k < n) × A k)
some_same n {t} s = record {
  holds = λ e. let w = some_any n t e in (w.0, w.1, (s w.0).holds w.2);
  tests = λ w. any_some n t w.0 w.1 ((s w.0).tests w.2);
}

pub never_same : (s : Bool) {A : Type 0} → Same s A → Same (not s) (A → ⊥)
never_same true p = record { holds = λ e. absurd (false≢true e); tests = λ h. absurd (h (p.holds refl)) }
never_same false p = record { holds = λ e a. false≢true (p.tests a); tests = λ h. refl }

-- one thing wherever another
pub where_same : (s : Bool) {u : Bool} {A B : Type 0} → Same s A → Same u B → Same (not s || u) (A → B)
where_same true p q = record { holds = λ e a. q.holds e; tests = λ h. q.tests (h (p.holds refl)) }
where_same false p q = record { holds = λ e a. absurd (false≢true (p.tests a)); tests = λ h. refl }

pub small_same : (bytes : List ℕ) (i : ℕ) → Same (small_ok bytes i) (Small bytes i)
unfolding small_ok
small_same bytes i = le_same (get_or bytes i 0) 2
