-- The tests of refusal 15 say what the paper's words say.
-- Assumes nothing.
use mathlib.Core.Path.{◌≡◌}
use mathlib.Core.Bool.{true, ◌&&◌}
use mathlib.Core.List.{List}
use Prim.Native.Nat.{ℕ, ◌<◌}
use lib.ListN.{length, get_or}
use Rattle.ground.specs.Below.{any_below}
use Rattle.ground.specs.Lists.{elem}
use Rattle.answers.specs.Rules.{Same, AllSay}
use Rattle.answers.proofs.Same.{eq_same, and_same, some_same, never_same, where_same}
use Rattle.words.specs.Words.{word_at, same}
use Rattle.words.proofs.Same.{same_eq, same_refl}
use Rattle.names.specs.Names.{named, once, defined, Names, NameOk, name_rules}

word_same : (v w : List ℕ) → Same (same v w) (v ≡ w)
word_same v w = record { holds = same_eq v w; tests = λ e. rw e (same_refl w) }

module _ (t defs : List ℕ) (i : ℕ) where
  -- one of the first n definitions is of the name at byte i
  known_same : (n : ℕ) → Same (any_below n (named t defs (word_at t i))) ((d : ℕ) × (d < n) × Names t defs i d)
  known_same n = some_same n (λ d. word_same (word_at t (get_or defs d 0)) (word_at t i))

  -- there is a second definition at byte i
  abbrev Second : Type 0
  Second = (d : ℕ) × (d < length defs) × ((get_or defs d 0 ≡ i) × ((e : ℕ) × (e < d) × Names t defs i e))

  once-same : Same (once t defs i) (Second → ⊥)
  unfolding once
  once-same = never_same _ (some_same (length defs) (λ d. and_same (eq_same (get_or defs d 0) i) (known_same d)))

  module _ (uses : List ℕ) where
    defined-same : Same (defined t defs uses i) (elem uses i ≡ true → (d : ℕ) × (d < length defs) × Names t defs i d)
    unfolding defined
    defined-same = where_same (elem uses i) (record { holds = λ e. e; tests = λ e. e }) (known_same (length defs))

    name-same : Same (once t defs i && defined t defs uses i) (NameOk t defs uses i)
    name-same =
        let s = and_same once-same defined-same in
        record {
          holds = λ e.
              let h = s.holds e in
              record { first = λ d l p e m q. h.0 (d, l, (p, (e, m, q))); known = h.1 };
          tests = λ a. s.tests (λ (d, l, (p, (e, m, q))). a.first d l p e m q, a.known);
        }

pub names_say : (t defs uses : List ℕ) → AllSay (name_rules t defs uses)
unfolding name_rules AllSay
names_say t defs uses = (λ i l. name-same t defs i uses, tt)
