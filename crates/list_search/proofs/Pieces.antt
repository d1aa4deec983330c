-- Parts of one width: what is put over some leaves the others, and a list is gathered of its parts.
-- Assumes nothing.
use mathlib.Core.Path.{◌≡◌, sym, ap, ◌∙◌}
use mathlib.Core.Logic.{⊎_elim}
use mathlib.Core.List.{List, ◌++◌}
use Prim.Native.Nat.{ℕ, zero, suc, ◌+◌, ◌*◌, ◌-◌, ◌≤◌, ◌<◌}
use native.Mathlib.Nat.{suc-mul, zero-mul, eq-or-lt_of_le, le_of_suc-le-suc, not-suc-le-zero}
use native.Mathlib.Omega.{arith}
use lib.ListN.{length, get_or, take, drop, length-append}
use lib.Seq.{take_all, drop_at, take-add, drop-append-add, get_or-append-add}
use Rattle.ground.specs.Lists.{gather}
use Rattle.lists.specs.Patterns.{pattern_at}
use Rattle.lists.proofs.Parts.{piece_before, apart}

-- ---- what stands in two lists joined

-- behind the seam nothing of the first is seen
part_behind : (m j : ℕ) (p q : List ℕ) → length p ≤ j * m → pattern_at m (p ++ q) j ≡ take m (drop (j * m - length p) q)
part_behind m j p q h =
    let e : j * m ≡ length p + (j * m - length p) = omega arith in
    ap (λ (x : ℕ). take m (drop x (p ++ q))) e ∙ ap (take m) (drop-append-add p q (j * m - length p))

place_behind : (j : ℕ) (p q : List ℕ) → length p ≤ j → get_or (p ++ q) j 0 ≡ get_or q (j - length p) 0
place_behind j p q h =
    let e : j ≡ length p + (j - length p) = omega arith in
    ap (λ (x : ℕ). get_or (p ++ q) x 0) e ∙ get_or-append-add p q (j - length p) 0

-- so it may be another of the same length
pub other_before : (m j : ℕ) (p o q : List ℕ) → length p ≡ length o → length p ≤ j * m → pattern_at m (p ++ q) j ≡ pattern_at m (o ++ q) j
other_before m j p o q e h = part_behind m j p q h ∙ rw e (sym (part_behind m j o q (omega arith)))

pub other_places : (j : ℕ) (p o q : List ℕ) → length p ≡ length o → length p ≤ j → get_or (p ++ q) j 0 ≡ get_or (o ++ q) j 0
other_places j p o q e h = place_behind j p q h ∙ rw e (sym (place_behind j o q (omega arith)))

-- ---- a list by its parts

front_gathered : (m n : ℕ) (l : List ℕ) → gather (pattern_at m l) n ≡ take (n * m) l
front_gathered m zero l = rw zero-mul
front_gathered m (suc n) l = rw (suc-mul, take-add (n * m) m l, front_gathered m n l)

pub gathered : (m n : ℕ) (l : List ℕ) → length l ≡ n * m → gather (pattern_at m l) n ≡ l
gathered m n l e = front_gathered m n l ∙ take_all (n * m) l (omega arith)

-- and the parts of a list that is gathered of them
module _ (m : ℕ) (piece : ℕ → List ℕ) where
  pieces_long : (n : ℕ) → ((k : ℕ) → k < n → length (piece k) ≡ m) → length (gather piece n) ≡ n * m
  pieces_long zero wide = rw zero-mul
  pieces_long (suc n) wide = simp (length-append, pieces_long n (λ k l. wide k (omega arith)), wide n (omega arith), suc-mul)

  pub gathered_part : (n i : ℕ) → ((k : ℕ) → k < n → length (piece k) ≡ m) → i < n → pattern_at m (gather piece n) i ≡ piece i
  gathered_part zero i wide h = absurd (not-suc-le-zero h)
  gathered_part (suc n) i wide h =
      let long = pieces_long n (λ k l. wide k (omega arith)) in
      ⊎_elim
      (λ (e : i ≡ n). rw (e, drop_at (gather piece n) (piece n) (n * m) long) (take_all m (piece n) (omega (arith, wide n (omega arith)))))
      (λ (l : i < n).
      piece_before m i (gather piece n) (piece n) (omega (arith, long, apart m i n l))
      ∙ gathered_part n i (λ k g. wide k (omega arith)) l)
      (eq-or-lt_of_le (le_of_suc-le-suc h))
