-- What is done to words of lanes is done to the values that they carry.
-- Assumes nothing.
use mathlib.Core.Path.{◌≡◌, refl, ap, ap₂, ◌∙◌}
use mathlib.Core.Bool.{Bool, true, false, ◌&&◌, ◌||◌, and-false}
use Prim.Native.Nat.{ℕ, zero, suc, ◌^◌, ◌<◌}
use lib.Bits.{bit_and, bit_or}
use lib.Dec.{eqb}
use Rattle.ground.specs.Choose.{one}
use Rattle.gates.specs.Gate.{three_of}
use Rattle.gates.specs.Words.{not_of, and_of, xor_of, select_of}
use Rattle.gates.proofs.Values.{unknown}
use Rattle.gates.proofs.Words.{not0, not1}
use Rattle.lanes.specs.declared.Lanes.{Lanes}
use Rattle.lanes.specs.Lanes.{lanes_of, laid, bit_at, InLane}
use Rattle.lanes.specs.Owed.{turned_of, Lanewise, Lanewise2, Lanewise3}
use Rattle.lanes.proofs.Bits.{lanes_same, and_bit, or_bit, bits_of, of_bits}

pub word_same : (t u : ℕ → Bool) → ((i : ℕ) → i < 64 → t i ≡ u i) → lanes_of t ≡ lanes_of u
unfolding lanes_of
word_same t u h = lanes_same t u 64 h

pub laid_same : (v w : ℕ → ℕ) → ((i : ℕ) → i < 64 → v i ≡ w i) → laid v ≡ laid w
laid_same v w h = ap₂ (λ (x y : ℕ). record { ones = x; zeros = y }) (word_same _ _ (λ i l. rw (h i l))) (word_same _ _ (λ i l. rw (h i l)))

-- ---- a value as two bits

-- t and u say where v is 1 and where it is 0
abbrev Says : Bool → Bool → ℕ → Type 0
Says t u v = (t ≡ eqb v 1) × (u ≡ eqb v 0)

not_says : (a : ℕ) → Says (eqb a 0) (eqb a 1) (not_of a)
unfolding not_of
not_says zero = (refl, refl)
not_says (suc zero) = (refl, refl)
not_says (suc (suc a)) = simp (not0 a, not1 a) (refl, refl)

three_says : (a : ℕ) → Says (eqb a 1) (eqb a 0) (three_of a)
unfolding three_of
three_says zero = (refl, refl)
three_says (suc zero) = (refl, refl)
three_says (suc (suc a)) = simp (not0 a, not1 a, unknown a) (refl, refl)

and_says : (a b : ℕ) → Says (eqb a 1 && eqb b 1) (eqb a 0 || eqb b 0) (and_of a b)
unfolding and_of
and_says zero b = (refl, refl)
and_says (suc zero) zero = (refl, refl)
and_says (suc zero) (suc zero) = (refl, refl)
and_says (suc zero) (suc (suc b)) = simp (not0 b, not1 b) (refl, refl)
and_says (suc (suc a)) zero = simp (not0 a, not1 a) (refl, refl)
and_says (suc (suc a)) (suc zero) = simp (not0 a, not1 a) (refl, refl)
and_says (suc (suc a)) (suc (suc b)) = simp (not0 a, not1 a, not0 b) (refl, refl)

xor_says : (a b : ℕ) → Says ((eqb a 1 && eqb b 0) || (eqb a 0 && eqb b 1)) ((eqb a 1 && eqb b 1) || (eqb a 0 && eqb b 0)) (xor_of a b)
unfolding xor_of
xor_says zero zero = (refl, refl)
xor_says zero (suc zero) = (refl, refl)
xor_says zero (suc (suc b)) = simp (not0 b, not1 b, unknown b) (refl, refl)
xor_says (suc zero) zero = (refl, refl)
xor_says (suc zero) (suc zero) = (refl, refl)
xor_says (suc zero) (suc (suc b)) = simp (not0 b, not1 b, unknown b) (refl, refl)
xor_says (suc (suc a)) b = simp (not0 a, not1 a, unknown a) (refl, refl)

select_says : (a b s : ℕ)
    → Says (((eqb s 0 && eqb a 1) || (eqb s 1 && eqb b 1)) || (eqb a 1 && eqb b 1)) (((eqb s 0 && eqb a 0) || (eqb s 1 && eqb b 0)) || (eqb a 0 && eqb b 0))
    (select_of a b s)
unfolding select_of three_of
select_says zero b zero = (refl, refl)
select_says (suc zero) b zero = (refl, refl)
select_says (suc (suc a)) b zero = simp (not0 a, not1 a, unknown a) (refl, refl)
select_says a zero (suc zero) = simp and-false (refl, refl)
select_says a (suc zero) (suc zero) = simp and-false (refl, refl)
select_says a (suc (suc b)) (suc zero) = simp (not0 b, not1 b, unknown b, and-false) (refl, refl)
select_says zero zero (suc (suc s)) = simp (not0 s, not1 s) (refl, refl)
select_says zero (suc zero) (suc (suc s)) = simp (not0 s, not1 s) (refl, refl)
select_says zero (suc (suc b)) (suc (suc s)) = simp (not0 s, not1 s, not0 b, not1 b, unknown b) (refl, refl)
select_says (suc zero) zero (suc (suc s)) = simp (not0 s, not1 s) (refl, refl)
select_says (suc zero) (suc zero) (suc (suc s)) = simp (not0 s, not1 s) (refl, refl)
select_says (suc zero) (suc (suc b)) (suc (suc s)) = simp (not0 s, not1 s, not0 b, not1 b, unknown b) (refl, refl)
select_says (suc (suc a)) b (suc (suc s)) = simp (not0 s, not1 s, not0 a, not1 a, unknown a) (refl, refl)

-- ---- and in every lane

-- bits that say where v is 1 and where it is 0
in_lane : (v i : ℕ) {t u : Bool} {x y : ℕ} → bit_at x i ≡ one t → bit_at y i ≡ one u → Says t u v → InLane (record { ones = x; zeros = y }) i v
in_lane v i p q says = record { one_bit = p ∙ ap one says.0; zero_bit = q ∙ ap one says.1 }

pub turned_lanes : {a : Lanes} → Lanewise (turned_of true) a (record { ones = a.zeros; zeros = a.ones })
unfolding turned_of
turned_lanes i v l h = in_lane (not_of v) i h.zero_bit h.one_bit (not_says v)

pub as_they_are : {a : Lanes} → Lanewise (turned_of false) a a
unfolding turned_of
as_they_are i v l h = in_lane (three_of v) i h.one_bit h.zero_bit (three_says v)

module _ {a b : Lanes} where
  pub and_lanes : Lanewise2 and_of a b (record { ones = bit_and a.ones b.ones; zeros = bit_or a.zeros b.zeros })
  and_lanes i v w l h k =
      in_lane (and_of v w) i
      (and_bit _ _ i (eqb v 1) (eqb w 1) h.one_bit k.one_bit)
      (or_bit _ _ i (eqb v 0) (eqb w 0) h.zero_bit k.zero_bit)
      (and_says v w)

  pub xor_lanes : Lanewise2 xor_of a b (record {
    ones = bit_or (bit_and a.ones b.zeros) (bit_and a.zeros b.ones);
    zeros = bit_or (bit_and a.ones b.ones) (bit_and a.zeros b.zeros);
  })
  xor_lanes i v w l h k =
      in_lane (xor_of v w) i
      (or_bit _ _ i (eqb v 1 && eqb w 0) (eqb v 0 && eqb w 1)
      (and_bit _ _ i (eqb v 1) (eqb w 0) h.one_bit k.zero_bit)
      (and_bit _ _ i (eqb v 0) (eqb w 1) h.zero_bit k.one_bit))
      (or_bit _ _ i (eqb v 1 && eqb w 1) (eqb v 0 && eqb w 0)
      (and_bit _ _ i (eqb v 1) (eqb w 1) h.one_bit k.one_bit)
      (and_bit _ _ i (eqb v 0) (eqb w 0) h.zero_bit k.zero_bit))
      (xor_says v w)

pub select_lanes : {a b c : Lanes}
    → Lanewise3 select_of a b c (record {
      ones = bit_or (bit_or (bit_and c.zeros a.ones) (bit_and c.ones b.ones)) (bit_and a.ones b.ones);
      zeros = bit_or (bit_or (bit_and c.zeros a.zeros) (bit_and c.ones b.zeros)) (bit_and a.zeros b.zeros);
    })
select_lanes {a} {b} {c} i u v w l h k s =
    in_lane (select_of u v w) i (word 1 _ _ h.one_bit k.one_bit) (word 0 _ _ h.zero_bit k.zero_bit) (select_says u v w)
  where
    -- the lanes with the value n, where x and y are those of the sources
    word : (n x y : ℕ)
        → bit_at x i ≡ one (eqb u n)
        → bit_at y i ≡ one (eqb v n)
        → bit_at (bit_or (bit_or (bit_and c.zeros x) (bit_and c.ones y)) (bit_and x y)) i
        ≡ one (((eqb w 0 && eqb u n) || (eqb w 1 && eqb v n)) || (eqb u n && eqb v n))
    word n x y p q =
        or_bit _ _ i ((eqb w 0 && eqb u n) || (eqb w 1 && eqb v n)) (eqb u n && eqb v n)
        (or_bit _ _ i (eqb w 0 && eqb u n) (eqb w 1 && eqb v n) (and_bit _ _ i (eqb w 0) (eqb u n) s.zero_bit p) (and_bit _ _ i (eqb w 1) (eqb v n) s.one_bit q))
        (and_bit x y i (eqb u n) (eqb v n) p q)

-- ---- all lanes together

-- where lane i has the value v i, it carries it
pub laid_carries : (v : ℕ → ℕ) (i : ℕ) → i < 64 → InLane (laid v) i (v i)
laid_carries v i l = record { one_bit = (bits_of (λ j. eqb (v j) 1)).bits i l; zero_bit = (bits_of (λ j. eqb (v j) 0)).bits i l }

-- and two words that carry these values are the words of them
pub carries_laid : (v : ℕ → ℕ) (a : Lanes) → a.ones < 2 ^ 64 → a.zeros < 2 ^ 64 → ((i : ℕ) → i < 64 → InLane a i (v i)) → a ≡ laid v
carries_laid v a f g h =
    ap₂ (λ (x y : ℕ). record { ones = x; zeros = y }) (of_bits (record { fits = f; bits = λ i l. (h i l).one_bit }))
    (of_bits (record { fits = g; bits = λ i l. (h i l).zero_bit }))
