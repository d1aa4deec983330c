-- Pieces written one after the other are written as one.
-- Assumes nothing.
use mathlib.Core.Path.{◌≡◌, refl, sym, ap, ◌∙◌}
use mathlib.Core.List.{List, [], ◌∷◌, ◌++◌, append-nil, append_assoc}
use Prim.Native.Nat.{ℕ, suc, ◌+◌, ◌-◌, ◌≤◌, ◌<◌}
use native.Mathlib.Nat.{add-zero, zero-add, add-suc, suc-add}
use native.Mathlib.Numerals.{add-one}
use native.Mathlib.Omega.{arith}
use lib.ListN.{length, get_or, take, drop, set, length-append, drop_of_length-le}
use borrow.Rule.Slice.PartMut.{put_mid}
use lib.Seq.{sets, drop-drop, length-sets, sets-eq, take-suc, take_all, take-length, length-take-le}
use Rattle.ground.specs.Put.{Put}

module _ {A : Type 0} where
  sets_append : (l : List A) (i : ℕ) (a b : List A) → sets l i (a ++ b) ≡ sets (sets l i a) (i + length a) b
  sets_append l i [] b = rw add-zero
  sets_append l i (x ∷ a) b = rw (add-suc, ← suc-add i (length a)) (sets_append (set l i x) (suc i) a b)

  -- a copy over the whole length
  pub copied : (s d : List A) → length s ≡ length d → take (length s) s ++ drop (length s) d ≡ s
  copied s d e = rw (take-length s, drop_of_length-le d {i = length s} (omega arith)) (append-nil s)

  pub put_none : (w : List A) (at : ℕ) → Put w w at [] at
  put_none w at = record { written = refl; next_is = sym (add-zero at) }

  pub put_one : (w : List A) (at : ℕ) (z : A) → Put w (set w at z) at (z ∷ []) (at + 1)
  put_one w at z = record { written = refl; next_is = refl }

  pub put_long : {w w' a : List A} {at n : ℕ} → Put w w' at a n → length w' ≡ length w
  put_long {w} {w'} {a} {at} p = ap length p.written ∙ length-sets w at a

  pub put_then : {w₀ w w' a b : List A} {at n n' : ℕ} → Put w₀ w at a n → Put w w' n b n' → Put w₀ w' at (a ++ b) n'
  put_then {w₀} {w} {w'} {a} {b} {at} p q = record {
    written = q.written ∙ rw (p.written, p.next_is) (sym (sets_append w₀ at a b));
    next_is = q.next_is ∙ rw length-append (omega arith);
  }

  pub put_as : {w w' u v : List A} {at n : ℕ} → u ≡ v → Put w w' at u n → Put w w' at v n
  put_as e p = rw (← e) p

  -- room for the next piece, where what stands so far and the next begin the whole
  pub put_room : {w₀ w a : List A} {at next : ℕ} (whole b rest : List A) → Put w₀ w at a next → whole ≡ a ++ (b ++ rest) → at + length whole ≤ length w₀ → next + length b ≤ length w
  put_room {w₀} {w} {a} whole b rest p e l =
      let q : length whole ≡ length a + (length b + length rest) = ap length e ∙ simp length-append in
      omega (arith, put_long p, p.next_is)

  -- from the start on: what is written, and then what stood there
  pub put_whole : {w w' a : List A} {n : ℕ} → Put w w' 0 a n → length a ≤ length w → w' ≡ a ++ drop (length a) w
  put_whole {w} {w'} {a} p l = p.written ∙ sets-eq a w 0 (rw zero-add l) ∙ rw zero-add

  -- what a copy of v into n places from `at` on leaves
  pub part_sets : (w v : List A) (at n : ℕ) → length v ≡ n → at + n ≤ length w → put_mid at n w v ≡ sets w at v
  part_sets w v at n e l = rw (drop-drop, ← e) (sym (sets-eq v w at (rw e l) ∙ append_assoc (take at w) v _))

  pub put_part : (w : List A) (at n : ℕ) {u v : List A} → u ≡ v → length v ≡ n → at + n ≤ length w → Put w (put_mid at (at + n - at) w u) at v (at + n)
  put_part w at n e f l =
      let k : at + n - at ≡ n = omega arith in
      record { written = rw (k, e) (part_sets w _ at n f l); next_is = rw f }

-- ---- a loop that writes v element by element: its invariant, that the first i stand

pub record Partly {A : Type 0} (v w₀ : List A) (at : ℕ) (w : List A) (i : ℕ) : Type 0 where
  pub at_most : i ≤ length v
  pub first : w ≡ sets w₀ at (take i v)

module _ {A : Type 0} where
  pub partly_long : {v w₀ w : List A} {at i : ℕ} → Partly v w₀ at w i → length w ≡ length w₀
  partly_long {v} {w₀} {at = at} {i = i} s = ap length s.first ∙ length-sets w₀ at (take i v)

  pub partly_none : (v w₀ : List A) (at : ℕ) → Partly v w₀ at w₀ 0
  partly_none v w₀ at = record { at_most = omega arith; first = refl }

  pub partly_more : {v w₀ w : List A} {at i : ℕ} (d : A) {x : A} → Partly v w₀ at w i → i < length v → x ≡ get_or v i d → Partly v w₀ at (set w (at + i) x) (i + 1)
  partly_more {v} {w₀} {w} {at} {i} d s l e = record {
    at_most = omega arith;
    first =
        rw (e, add-one, take-suc v i d l, sets_append w₀ at (take i v) (get_or v i d ∷ []), length-take-le i v (omega arith), ← s.first);
  }

  pub partly_all : {v w₀ w : List A} {at i : ℕ} → Partly v w₀ at w i → length v ≤ i → Put w₀ w at v (at + i)
  partly_all {v} {w₀} {w} {at} {i} s l = record {
    written = s.first ∙ ap (λ (u : List A). sets w₀ at u) (take_all i v l);
    next_is = let e : i ≡ length v = omega (arith, s.at_most) in rw e;
  }
