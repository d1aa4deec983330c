-- The shortened forms of the derivative have the same texts as the plain ones.
-- Assumes nothing.
use mathlib.Core.Path.{refl, sym, ap, ◌∙◌, subst}
use mathlib.Core.Logic.{◌⊎◌, inl, inr, ⊎_elim}
use mathlib.Core.List.{List, [], ◌++◌}
use Prim.Native.Nat.{ℕ}
use Rattle.syntax.specs.Regular.{Re, none, eps, one, seq, alt, star, Has}
use Rattle.syntax.specs.Derivative.{cat, besides, either}

pub cat_to : (r s : Re) (w : List ℕ) → Has (seq r s) w → Has (cat r s) w
unfolding Has cat
cat_to none s w h = absurd h.3
cat_to eps s w h = subst (Has s) (sym (h.2 ∙ ap (λ (u : List ℕ). u ++ h.1) h.3)) h.4
cat_to (one l) s w h = h
cat_to (seq a b) s w h = h
cat_to (alt a b) s w h = h
cat_to (star a) s w h = h

pub cat_from : (r s : Re) (w : List ℕ) → Has (cat r s) w → Has (seq r s) w
unfolding Has cat
cat_from none s w h = absurd h
cat_from eps s w h = ([], w, refl, refl, h)
cat_from (one l) s w h = h
cat_from (seq a b) s w h = h
cat_from (alt a b) s w h = h
cat_from (star a) s w h = h

else_to : (r s : Re) (w : List ℕ) → Has r w ⊎ Has s w → Has (besides r s) w
unfolding Has besides
else_to r none w h = ⊎_elim (λ x. x) (λ x. absurd x) h
else_to r eps w h = h
else_to r (one l) w h = h
else_to r (seq a b) w h = h
else_to r (alt a b) w h = h
else_to r (star a) w h = h

else_from : (r s : Re) (w : List ℕ) → Has (besides r s) w → Has r w ⊎ Has s w
unfolding Has besides
else_from r none w h = inl h
else_from r eps w h = h
else_from r (one l) w h = h
else_from r (seq a b) w h = h
else_from r (alt a b) w h = h
else_from r (star a) w h = h

pub either_to : (r s : Re) (w : List ℕ) → Has r w ⊎ Has s w → Has (either r s) w
unfolding Has either
either_to none s w h = ⊎_elim (λ x. absurd x) (λ x. x) h
either_to eps s w h = else_to eps s w h
either_to (one l) s w h = else_to (one l) s w h
either_to (seq a b) s w h = else_to (seq a b) s w h
either_to (alt a b) s w h = else_to (alt a b) s w h
either_to (star a) s w h = else_to (star a) s w h

pub either_from : (r s : Re) (w : List ℕ) → Has (either r s) w → Has r w ⊎ Has s w
unfolding Has either
either_from none s w h = inr h
either_from eps s w h = else_from eps s w h
either_from (one l) s w h = else_from (one l) s w h
either_from (seq a b) s w h = else_from (seq a b) s w h
either_from (alt a b) s w h = else_from (alt a b) s w h
either_from (star a) s w h = else_from (star a) s w h
