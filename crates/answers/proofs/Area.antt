-- Laws of the answer area: numbers laid one behind the other.
-- Assumes nothing.
use Prim.Native.Nat.{ℕ, ◌+◌, ◌≤◌}
use mathlib.Core.Path.{◌≡◌, refl, sym, ap, ◌∙◌}
use mathlib.Core.List.{List, [], ◌++◌, append-nil}
use native.Mathlib.Omega.{arith}
use lib.ListN.{length, drop, drop_of_length-le, length-append, length-drop}
use lib.Seq.{sets, sets-eq, take_at, drop-append-add, drop-drop}
use Rattle.little.specs.Little.{le}
use Rattle.little.proofs.Little.{le-length}
use Rattle.answers.specs.Area.{Four, area_of}

-- a number laid behind p, in an area that held s
pub next-number : (p s : List ℕ) (n w : ℕ) → length p ≡ n → n + 8 ≤ length s → sets (p ++ drop n s) n (le 8 w) ≡ p ++ le 8 w ++ drop (n + 8) s
next-number p s n w e h =
    let l : length (le 8 w) ≡ 8 = le-length 8 w in
    let d : length (p ++ drop n s) ≡ length s = simp (length-append, length-drop) (omega arith) in
    let past : drop (n + 8) (p ++ drop n s) ≡ drop (n + 8) s =
    ap (λ (k : ℕ). drop (k + 8) (p ++ drop n s)) (sym e) ∙ drop-append-add p (drop n s) 8 ∙ drop-drop 8 n s in
    sets-eq (le 8 w) (p ++ drop n s) n (omega arith) ∙ rw (l, take_at p (drop n s) n e, past)

-- four numbers, one behind the other, in an area of 32 bytes
pub four_numbers : (a b c d : List ℕ) {e : List ℕ} (w : Four) → length a ≡ 32
    → b ≡ sets a 0 (le 8 w.first) → c ≡ sets b 8 (le 8 w.second) → d ≡ sets c 16 (le 8 w.third) → e ≡ sets d 24 (le 8 w.fourth)
    → e ≡ area_of w
unfolding area_of
four_numbers a b c d {e} w n p q r s =
    let x1 : List ℕ = le 8 w.first in
    let x2 : List ℕ = x1 ++ le 8 w.second in
    let x3 : List ℕ = x2 ++ le 8 w.third in
    let m2 : length x2 ≡ 16 = simp (length-append, le-length) in
    let m3 : length x3 ≡ 24 = simp (length-append, le-length) in
    let p' : b ≡ x1 ++ drop 8 a = p ∙ next-number [] a 0 w.first refl (omega arith) in
    let q' : c ≡ x2 ++ drop 16 a = q ∙ rw p' (next-number x1 a 8 w.second (le-length 8 w.first) (omega arith)) in
    let r' : d ≡ x3 ++ drop 24 a = r ∙ rw q' (next-number x2 a 16 w.third m2 (omega arith)) in
    let s' : e ≡ area_of w ++ drop 32 a = s ∙ rw r' (next-number x3 a 24 w.fourth m3 (omega arith)) in
    s' ∙ rw (drop_of_length-le a {i = 32} (omega arith), append-nil)

pub area_length : (w : Four) → length (area_of w) ≡ 32
unfolding area_of
area_length w = simp (length-append, le-length)
