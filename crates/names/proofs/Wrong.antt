-- The bytes of wrong names: of a second definition, and of a name that is used and defined nowhere.
-- Assumes nothing.
use mathlib.Core.Path.{◌≡◌, refl, sym, ap, ◌∙◌}
use mathlib.Core.Bool.{Bool, true, false, not, ◌&&◌, ◌||◌, not-not, and_self, and-true}
use mathlib.Core.List.{List, ◌++◌}
use Prim.Native.Nat.{ℕ, ◌<◌}
use lib.Dec.{eqb}
use lib.ListN.{length, get_or}
use borrow.Author.Tests.{eq-eqb, eqb-true, not-true, not-false}
use Rattle.ground.specs.Below.{any_below}
use Rattle.ground.specs.Lists.{elem}
use Rattle.ground.proofs.Below.{any_some, some_any}
use Rattle.ground.proofs.Tests.{both, and_both, neither}
use Rattle.ground.proofs.Elem.{elem_at, elem_place, elem_append}
use Rattle.words.specs.Words.{word_at}
use Rattle.names.specs.Names.{named, once, defined, definition}
use Rattle.names.specs.Owed.{lowest, again, undefined, Within}
use Rattle.names.proofs.Last.{last_any}
use Rattle.names.proofs.Lowest.{Fails}
use Rattle.names.proofs.LowestNot.{LowestNot, lowest-not}

module _ (t defs : List ℕ) where
  -- one of the first n definitions is of the name at byte i
  abbrev known : ℕ → ℕ → Bool
  known n i = any_below n (named t defs (word_at t i))

  again-is : (d : ℕ) → again t defs d ≡ known d (get_or defs d 0)
  unfolding definition
  again-is d = last_any (named t defs (word_at t (get_or defs d 0))) d

  undefined-is : (uses : List ℕ) (u : ℕ) → undefined t defs uses u ≡ not (known (length defs) (get_or uses u 0))
  unfolding definition
  undefined-is uses u = sym (not-not _) ∙ ap not (last_any (named t defs (word_at t (get_or uses u 0))) (length defs))

  -- ---- a second definition

  twice_at : (i : ℕ) → Fails (again t defs) defs (length defs) i → once t defs i ≡ false
  unfolding once
  twice_at i (d, l, e, p) =
      ap not
      (any_some (length defs) (λ d. eqb (get_or defs d 0) i && known d i) d l
      (and_both (eq-eqb (get_or defs d 0) i (sym p)) (ap (known d) p ∙ sym (again-is d) ∙ e)))

  at_twice : (i : ℕ) → once t defs i ≡ false → Fails (again t defs) defs (length defs) i
  unfolding once
  at_twice i e = go (some_any (length defs) (λ d. eqb (get_or defs d 0) i && known d i) (not-false _ e))
    where
      go : (d : ℕ) × (d < length defs) × ((eqb (get_or defs d 0) i && known d i) ≡ true) → Fails (again t defs) defs (length defs) i
      go (d, l, q) =
          let h = both (eqb (get_or defs d 0) i) (known d i) q in
          let p = eqb-true (get_or defs d 0) i h.0 in
          (d, l, again-is d ∙ ap (known d) p ∙ h.1, sym p)

  pub lowest_twice : Within t defs → LowestNot (length t) (once t defs) (lowest (again t defs) defs (length defs))
  lowest_twice within = lowest-not (again t defs) defs (length defs) within twice_at at_twice

  -- ---- a name that is defined nowhere

  nowhere_at : (uses : List ℕ) (i : ℕ) → Fails (undefined t defs uses) uses (length uses) i → defined t defs uses i ≡ false
  unfolding defined
  nowhere_at uses i (u, l, e, p) =
      rw (p, elem_at uses u l) (not-true _ (sym (undefined-is uses u) ∙ e))

  at_nowhere : (uses : List ℕ) (i : ℕ) → defined t defs uses i ≡ false → Fails (undefined t defs uses) uses (length uses) i
  unfolding defined
  at_nowhere uses i e = go (elem_place uses i (not-false _ h.0))
    where
      h : (not (elem uses i) ≡ false) × (known (length defs) i ≡ false)
      h = neither (not (elem uses i)) (known (length defs) i) e

      go : (u : ℕ) × (u < length uses) × (get_or uses u 0 ≡ i) → Fails (undefined t defs uses) uses (length uses) i
      go (u, l, p) = (u, l, undefined-is uses u ∙ ap (λ (j : ℕ). not (known (length defs) j)) p ∙ ap not h.1, sym p)

  pub lowest-nowhere : (uses : List ℕ) → Within t uses → LowestNot (length t) (defined t defs uses) (lowest (undefined t defs uses) uses (length uses))
  lowest-nowhere uses within = lowest-not (undefined t defs uses) uses (length uses) within (nowhere_at uses) (at_nowhere uses)

  -- names that are used in two lists
  pub defined_append : (l m : List ℕ) (i : ℕ) → (defined t defs l i && defined t defs m i) ≡ defined t defs (l ++ m) i
  unfolding defined
  defined_append l m i = rw (elem_append l m i) (go (elem l i) (elem m i) (known (length defs) i))
    where
      go : (a b k : Bool) → ((not a || k) && (not b || k)) ≡ (not (a || b) || k)
      go true true k = and_self k
      go true false k = and-true k
      go false b k = refl
