-- A lost pair by the counts: no fault up to f is the higher one; and the first pair of all.
-- Assumes nothing.
use mathlib.Core.Path.{◌≡◌, refl, sym, ap, ◌∙◌}
use mathlib.Core.Bool.{Bool, true, false}
use mathlib.Core.List.{List}
use Prim.Native.Nat.{ℕ, ◌+◌, ◌<◌}
use native.Mathlib.Omega.{arith}
use borrow.Author.Tests.{le-ltb}
use Rattle.std.specs.Prelude.{Option, Some, None}
use Rattle.std.specs.Option.{option_map}
use Rattle.std.proofs.lemmas.Option.{some_pair_parts, none-some}
use Rattle.ground.specs.Below.{any_below}
use Rattle.ground.proofs.Below.{any_same}
use Rattle.findings.specs.Findings.{first_where, place_where}
use Rattle.findings.proofs.Lowest.{place-is, place-none, place-lowest, place-nowhere, place-same, lowest-same}
use Rattle.inspect.specs.Owed.{pair_in, pair_where}

pub none_up_to : (k d s : List ℕ) (f g : ℕ) → g < f + 1 → false ≡ pair_in k d s f g
unfolding pair_in
none_up_to k d s f g l = rw (le-ltb f g (omega arith))

-- ---- the first pair

module _ (n : ℕ) (t : ℕ → ℕ → Bool) where
  abbrev lower : ℕ → Bool
  lower f = any_below n (t f)

  abbrev with-it : ℕ → ℕ × ℕ
  with-it f = (f, first_where n (t f))

  pub pair-lowest : {f g : ℕ} → ◌≡◌ {A = Option (ℕ × ℕ)} (Some (f, g)) (pair_where n t) → ((f ≡ first_where n lower) × (g ≡ first_where n (t f))) × (any_below n lower ≡ true)
  unfolding pair_where
  pair-lowest {f} {g} e = go (place_where n lower) refl e
    where
      go : (o : Option ℕ) → o ≡ place_where n lower → ◌≡◌ {A = Option (ℕ × ℕ)} (Some (f, g)) (option_map with-it o) → ((f ≡ first_where n lower) × (g ≡ first_where n (t f))) × (any_below n lower ≡ true)
      go None q e = absurd (none-some _ (sym e))
      go (Some k) q e =
          let p = some_pair_parts _ _ _ _ e in
          let w = place-lowest n lower q in
          ((p.0 ∙ w.0, p.1 ∙ ap (λ (h : ℕ). first_where n (t h)) (sym p.0)), w.1)

  pub pair-nowhere : None ≡ pair_where n t → any_below n lower ≡ false
  unfolding pair_where
  pair-nowhere e = go (place_where n lower) refl e
    where
      go : (o : Option ℕ) → o ≡ place_where n lower → None ≡ option_map with-it o → any_below n lower ≡ false
      go None q e = place-nowhere n lower q
      go (Some k) q e = absurd (none-some _ e)

  -- as a loop comes to it, or to none
  pub pair-here : {f g : ℕ} → f < n → any_below f lower ≡ false → Some g ≡ place_where n (t f) → ◌≡◌ {A = Option (ℕ × ℕ)} (Some (f, g)) (pair_where n t)
  unfolding pair_where
  pair-here {f} l none e = let w = place-lowest n (t f) e in rw (← place-is n lower l none w.1, ← w.0)

  pub no-pair : any_below n lower ≡ false → None ≡ pair_where n t
  unfolding pair_where
  no-pair none = rw (← place-none n lower none)

pub pair-same : (n : ℕ) (t u : ℕ → ℕ → Bool) → ((f g : ℕ) → g < n → t f g ≡ u f g) → pair_where n t ≡ pair_where n u
unfolding pair_where
pair-same n t u h = rw (place-same n (lower n t) (lower n u) (λ f _. any_same n (t f) (u f) (h f))) (go (place_where n (lower n u)))
  where
    go : (o : Option ℕ) → option_map (with-it n t) o ≡ option_map (with-it n u) o
    go None = refl
    go (Some f) = ap {B = Option (ℕ × ℕ)} (λ g. Some (f, g)) (lowest-same n (t f) (u f) (h f))
