-- A text that the grammar has, taken apart: what stands behind each part of the grammar.
-- Assumes nothing.
use mathlib.Core.Path.{◌≡◌, refl, sym, ap, ◌∙◌}
use mathlib.Core.Bool.{Bool, true, false, ◌||◌, false≢true}
use mathlib.Core.List.{List, [], ◌∷◌, ◌++◌}
use Prim.Native.Nat.{ℕ}
use native.Mathlib.Omega.{arith}
use lib.Dec.{T, eqb}
use borrow.Author.Tests.{eqb-true}
use Rattle.ground.proofs.Tests.{T-is}
use Rattle.syntax.specs.Regular.{Re, one, seq, star, has, Many, stop, more, Has}
use Rattle.syntax.specs.Grammar.{symbol, symbols, sign, blanks}
use Rattle.shape.proofs.Symbols.{Gap, has_own, blank_byte, own_byte}
use Rattle.shape.proofs.Pieces as p
use Rattle.shape.proofs.Pieces.{All}

-- ---- one after the other

pub record Split (l u v : List ℕ) : Type 0 where
  pub left : List ℕ
  pub right : List ℕ
  pub whole : l ≡ left ++ right
  pub left_is : symbols left ≡ u
  pub right_is : symbols right ≡ v

pub split : (u l v : List ℕ) → symbols l ≡ u ++ v → Split l u v
split [] l v e = record { left = []; right = l; whole = refl; left_is = refl; right_is = e }
split (x ∷ u) [] v e = let z : ◌≡◌ {A = ℕ} 0 1 = cc in absurd (omega arith)
split (x ∷ u) (b ∷ l) v e =
    let h : symbol b ≡ x = cc in
    let r : symbols l ≡ u ++ v = cc in
    let w = split u l v r in
    record {
      left = b ∷ w.left;
      right = w.right;
      whole = ap (λ (m : List ℕ). b ∷ m) w.whole;
      left_is = let q = w.left_is in cc;
      right_is = w.right_is;
    }

pub record Two (r s : Re) (l : List ℕ) : Type 0 where
  pub left : List ℕ
  pub right : List ℕ
  pub whole : l ≡ left ++ right
  pub first : Has r (symbols left)
  pub second : Has s (symbols right)

pub two : (r s : Re) (l : List ℕ) → Has (seq r s) (symbols l) → Two r s l
unfolding Has
two r s l h =
    let w = split h.0 l h.1 h.2 in
    record { left = w.left; right = w.right; whole = w.whole; first = rw w.left_is h.3; second = rw w.right_is h.4 }

pub nil : (l : List ℕ) → symbols l ≡ [] → l ≡ []
nil [] e = refl
nil (b ∷ l) e = let z : ◌≡◌ {A = ℕ} 0 1 = cc in absurd (omega arith)

-- ---- one symbol

single : (l : List ℕ) (x : ℕ) → symbols l ≡ x ∷ [] → (b : ℕ) × (l ≡ b ∷ []) × (symbol b ≡ x)
single [] x e = let z : ◌≡◌ {A = ℕ} 0 1 = cc in absurd (omega arith)
single (b ∷ []) x e = (b, refl, cc)
single (b ∷ c ∷ l) x e = let r : symbols (c ∷ l) ≡ [] = cc in let z : ◌≡◌ {A = ℕ} 0 1 = cc in absurd (omega arith)

pub one_of : (s l : List ℕ) → Has (one s) (symbols l) → (b : ℕ) × (l ≡ b ∷ []) × (has s (symbol b) ≡ true)
unfolding Has
one_of s l h = let w = single l h.0 h.2 in (w.0, w.1, ap (has s) w.2 ∙ T-is (has s h.0) h.1)

only : (x k : ℕ) → has (x ∷ []) k ≡ true → k ≡ x
unfolding has
only x k h = go (eqb x k) refl h
  where
    go : (t : Bool) → eqb x k ≡ t → (t || false) ≡ true → k ≡ x
    go true e f = sym (eqb-true x k e)
    go false e f = absurd (false≢true f)

pub sign-is : (k : ℕ) → T (has_own k) → (l : List ℕ) → Has (sign k) (symbols l) → l ≡ k ∷ []
sign-is k t l h =
    let o = one_of (symbol k ∷ []) l h in
    o.1 ∙ ap (λ (b : ℕ). b ∷ []) (own_byte k o.0 t (only (symbol k) (symbol o.0) o.2))

-- ---- any number of symbols out of a list

module _ (s : List ℕ) (P : ℕ → Type 0) (f : (b : ℕ) → has s (symbol b) ≡ true → P b) where
  each_of : {w : List ℕ} → Many (Has (one s)) w → (l : List ℕ) → symbols l ≡ w → All P l
  each_of stop l e = rw (nil l e) p.none
  each_of (more u v j h m) l e =
      let w = split u l v (e ∙ j) in
      let o = one_of s w.left (rw w.left_is h) in
      rw (w.whole, o.1) (p.more (f o.0 o.2) (each_of m w.right w.right_is))

  pub all_of : (l : List ℕ) → Has (star (one s)) (symbols l) → All P l
  unfolding Has
  all_of l h = each_of h l refl

pub blanks_gap : (l : List ℕ) → Has blanks (symbols l) → All Gap l
unfolding blanks
blanks_gap l h = all_of (0 ∷ []) Gap (λ b e. blank_byte b (only 0 (symbol b) e)) l h
