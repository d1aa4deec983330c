-- Laws of little-endian bytes: how many there are, laying them one by one, and reading two of them back.
-- Assumes nothing.
use mathlib.Core.Path.{◌≡◌, refl, sym, ap, ◌∙◌}
use mathlib.Core.List.{List, [], ◌∷◌}
use Prim.Native.Nat.{ℕ, zero, suc, ◌+◌, ◌^◌, ◌/◌, ◌%◌, ◌<◌}
use native.Mathlib.Nat.{pow-suc, div-div-eq-div-mul, div-add-mod, mod-eq_of_lt}
use native.Mathlib.Omega.{arith}
use lib.ListN.{length, get_or}
use Rattle.std.specs.Int.{w16, w64, byte_at, bytes_low_first, to_le_bytes, from_le_bytes}
use Rattle.little.specs.Little.{le, pair_at}

pub le-length : (n w : ℕ) → length (le n w) ≡ n
unfolding le
le-length zero w = refl
le-length (suc n) w = ap suc (le-length n (w / 256))

-- ---- two bytes

-- what is written is read
pub read_back : (w : ℕ) → w < 65536 → pair_at (le 2 w) 0 ≡ w
unfolding le pair_at
read_back w l =
    let high : w / 256 % 256 ≡ w / 256 = mod-eq_of_lt (omega (arith, div-add-mod w 256)) in
    omega (arith, div-add-mod w 256)

-- ---- as the library writes them

byte_is : (i w : ℕ) → byte_at i w ≡ w / 256 ^ i % 256
byte_is zero w = omega arith
byte_is (suc i) w = refl

bytes_from : (i n w : ℕ) → bytes_low_first i n w ≡ le n (w / 256 ^ i)
unfolding le
bytes_from i zero w = refl
bytes_from i (suc n) w =
    let e : w / 256 ^ i / 256 ≡ w / 256 ^ suc i = div-div-eq-div-mul w (256 ^ i) 256 ∙ ap (λ (x : ℕ). w / x) (sym (pow-suc 256 i)) in
    rw (e, byte_is, bytes_from (suc i) n w)

pub le_bytes_eight : (w : ℕ) → to_le_bytes w64 w ≡ le 8 w
le_bytes_eight w = bytes_from 0 8 w ∙ ap (λ (x : ℕ). le 8 x) (omega arith)

pub le_bytes_two : (w : ℕ) → to_le_bytes w16 w ≡ le 2 w
unfolding le
le_bytes_two w = refl

pub pair_bytes : (s : List ℕ) (at : ℕ) → from_le_bytes w16 (get_or s at 0 ∷ get_or s (at + 1) 0 ∷ []) ≡ pair_at s at
unfolding pair_at
pair_bytes s at = omega arith
