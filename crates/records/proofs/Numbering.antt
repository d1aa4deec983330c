-- The loop of `number_lines`, from the last gate down: where it starts, one turn more, and the end.
-- Assumes nothing.
use mathlib.Core.Path.{◌≡◌, refl, sym, ap, ◌∙◌}
use mathlib.Core.Bool.{true, ◌||◌, false≢true}
use mathlib.Core.List.{List, ◌∷◌}
use Prim.Native.Nat.{ℕ, suc, ◌+◌, ◌-◌, ◌≤◌, ◌<◌}
use native.Mathlib.Decide.{ℕ_discrete}
use native.Mathlib.Omega.{arith}
use lib.Dec.{eqb}
use lib.ListN.{length, get_or, set, drop, length-set, drop_of_length-le}
use lib.Seq.{drop-cons, get_or-set_same, get_or-set_other}
use borrow.Author.Tests.{eq-eqb, ne_eqb}
use Rattle.ground.specs.Choose.{choose}
use Rattle.ground.specs.Lists.{elem, index_in}
use Rattle.records.specs.Owed.{NumberLinesDone}

-- the gates from position i on have their lines
pub record NumberedFrom (order : List ℕ) (inputs : ℕ) (line₀ line : List ℕ) (i : ℕ) : Type 0 where
  pub at_most : i ≤ length order
  pub long : length line ≡ length line₀
  pub lines : (g : ℕ) → elem (drop i order) g ≡ true → get_or line g 0 ≡ inputs + i + index_in (drop i order) g

pub from_none : (order : List ℕ) (inputs : ℕ) (line : List ℕ) → NumberedFrom order inputs line line (length order)
unfolding elem
from_none order inputs line = record {
  at_most = omega arith;
  long = refl;
  lines = λ g e. absurd (false≢true (ap (λ (l : List ℕ). elem l g) (sym (drop_of_length-le order {i = length order} (omega arith))) ∙ e));
}

module _ {order : List ℕ} {inputs : ℕ} {line₀ line : List ℕ} {i : ℕ} (f : NumberedFrom order inputs line₀ line i) where
  -- y is the gate before position i
  pub from_more : 0 < i → {y : ℕ} → y ≡ get_or order (i - 1) 0 → y < length line₀ → NumberedFrom order inputs line₀ (set line y (inputs + (i - 1))) (i - 1)
  unfolding elem index_in
  from_more z {y} is h = record {
    at_most = omega (arith, f.at_most);
    long = length-set line y (inputs + (i - 1)) ∙ f.long;
    lines = λ g e.
        go g (ℕ_discrete y g) (ap (λ (l : List ℕ). elem l g) (sym here) ∙ e)
        ∙ ap (λ (l : List ℕ). inputs + (i - 1) + index_in l g) (sym here);
  }
    where
      next : suc (i - 1) ≡ i
      next = omega arith

      here : drop (i - 1) order ≡ y ∷ drop i order
      here = drop-cons order (i - 1) 0 (omega (arith, f.at_most)) ∙ rw (is, next)

      inside : y < length line
      inside = omega (arith, f.long)

      go : (g : ℕ) → Dec (y ≡ g)
          → (eqb y g || elem (drop i order) g) ≡ true
          → get_or (set line y (inputs + (i - 1))) g 0 ≡ inputs + (i - 1) + choose (eqb y g) 0 (suc (index_in (drop i order) g))
      go g (yes q) e = rw (eq-eqb y g q, ← q) (get_or-set_same line y (inputs + (i - 1)) 0 inside ∙ omega arith)
      go g (no q) e =
          rw (ne_eqb y g q)
          (get_or-set_other line y g (inputs + (i - 1)) 0 (λ p. q (sym p))
          ∙ f.lines g (simp (ne_eqb y g q) at e)
          ∙ omega arith)

  pub from_all : i ≤ 0 → NumberLinesDone order inputs line
  from_all z g e =
      let k : i ≡ 0 = omega arith in
      f.lines g (ap (λ (j : ℕ). elem (drop j order) g) k ∙ e)
      ∙ ap (λ (j : ℕ). inputs + j + index_in (drop j order) g) k
      ∙ omega arith
