-- A part of a list that is lent, and the list when other bytes have come back; and pieces of one width, one after the other, of which one is lent.
-- Assumes nothing.
use mathlib.Core.Path.{◌≡◌, sym, ap, ◌∙◌}
use mathlib.Core.Logic.{◌⊎◌, inl, inr}
use mathlib.Core.List.{List, ◌++◌}
use Prim.Native.Nat.{ℕ, ◌+◌, ◌*◌, ◌-◌, ◌≤◌, ◌<◌}
use native.Mathlib.Omega.{arith}
use lib.ListN.{length, take, drop, length-take, length-drop, take-append-drop}
use lib.Seq.{drop-drop, drop_at, take_at, length-take-le, take-append-le, drop-append-le, drop-append-add}
use Rattle.ground.proofs.Tests.{either}
use Rattle.lists.specs.Patterns.{pattern_at}
use Rattle.lists.proofs.Patterns.{part_fits}

-- w bytes from a on; and what the whole holds when v has come back
abbrev pub lent : ℕ → ℕ → List ℕ → List ℕ
lent a w l = take (a + w - a) (drop a l)

abbrev pub back : ℕ → ℕ → List ℕ → List ℕ → List ℕ
back a w l v = take a l ++ (v ++ drop (a + w - a) (drop a l))

pub width_is : (a w : ℕ) → a + w - a ≡ w
width_is a w = omega arith

pub lent_long : (a w : ℕ) (l : List ℕ) → a + w ≤ length l → length (lent a w l) ≡ w
lent_long a w l h = simp (length-take, length-drop) (omega arith)

-- ---- pieces of w bytes

pub lent_piece : (w : ℕ) (l : List ℕ) (i : ℕ) → lent (i * w) w l ≡ pattern_at w l i
lent_piece w l i = ap (λ (z : ℕ). take z (drop (i * w) l)) (width_is (i * w) w)

-- the piece that comes back
pub back-same : (w : ℕ) (l v : List ℕ) (i : ℕ) → i * w + w ≤ length l → length v ≡ w → pattern_at w (back (i * w) w l v) i ≡ v
back-same w l v i h e = rw (drop_at (take (i * w) l) (v ++ drop (i * w + w - i * w) (drop (i * w) l)) (i * w) (length-take-le (i * w) l (omega arith))) (take_at v _ w e)

-- piece j of the first of two lists joined, whatever follows
pub piece_before : (w j : ℕ) (p q : List ℕ) → j * w + w ≤ length p → pattern_at w (p ++ q) j ≡ pattern_at w p j
piece_before w j p q h = rw (drop-append-le (j * w) p q (omega arith)) (take-append-le w (drop (j * w) p) q (rw length-drop (omega arith)))

-- one below the piece that comes back, and one above
below : (w j a : ℕ) (l rest : List ℕ) → j * w + w ≤ a → a ≤ length l → pattern_at w (take a l ++ rest) j ≡ pattern_at w l j
below w j a l rest h e =
    let first : j * w + w ≤ length (take a l) = rw (length-take-le a l e) h in
    piece_before w j (take a l) rest first
    ∙ sym (piece_before w j (take a l) (drop a l) first)
    ∙ ap (λ (m : List ℕ). pattern_at w m j) (take-append-drop a l)

above : (w a e : ℕ) (l v : List ℕ) → a + w ≤ length l → length v ≡ w → drop (a + (w + e)) (back a w l v) ≡ drop (a + (w + e)) l
above w a e l v h long =
    let first : length (take a l) ≡ a = length-take-le a l (omega arith) in
    ap (λ (z : ℕ). drop (z + (w + e)) (back a w l v)) (sym first)
    ∙ drop-append-add (take a l) (v ++ drop (a + w - a) (drop a l)) (w + e)
    ∙ ap (λ (z : ℕ). drop (z + e) (v ++ drop (a + w - a) (drop a l))) (sym long)
    ∙ drop-append-add v (drop (a + w - a) (drop a l)) e
    ∙ rw (width_is a w, drop-drop e w (drop a l), drop-drop (w + e) a l)

pub apart : (w i j : ℕ) → i < j → i * w + w ≤ j * w
apart w i j h = omega (arith, part_fits i j w h)

-- the others stay
pub back_other : (w : ℕ) (l v : List ℕ) (i j : ℕ) → i * w + w ≤ length l → length v ≡ w → (j ≡ i → ⊥) → pattern_at w (back (i * w) w l v) j ≡ pattern_at w l j
back_other w l v i j h e d = go (either j i)
  where
    go : (j < i) ⊎ (i ≤ j) → pattern_at w (back (i * w) w l v) j ≡ pattern_at w l j
    go (inl b) = below w j (i * w) l (v ++ drop (i * w + w - i * w) (drop (i * w) l)) (apart w j i b) (omega arith)
    go (inr b) =
        let over = apart w i j (omega (arith, d)) in
        let at : j * w ≡ i * w + (w + (j * w - (i * w + w))) = omega (arith, over) in
        ap (λ (z : ℕ). take w (drop z (back (i * w) w l v))) at
        ∙ ap (take w) (above w (i * w) (j * w - (i * w + w)) l v h e)
        ∙ ap (λ (z : ℕ). take w (drop z l)) (sym at)
