-- A state is read back from its bytes.
-- Assumes nothing.
use mathlib.Core.Path.{◌≡◌, refl, sym, ap, ◌∙◌}
use mathlib.Core.List.{List, [], ◌++◌, append_assoc}
use Prim.Native.Nat.{ℕ, ◌+◌, ◌-◌, ◌*◌, ◌/◌, ◌%◌, ◌≤◌, ◌<◌}
use native.Mathlib.Nat.{add-zero}
use native.Mathlib.Omega.{arith}
use lib.ListN.{length, get_or, take, drop, length-append, length-drop}
use lib.Seq.{take_all, drop_at, get_or-append-add}
use Rattle.ground.proofs.Put.{copied}
use Rattle.ground.proofs.Counting.{count_most}
use Rattle.little.specs.Little.{le, pair_at}
use Rattle.little.proofs.Little.{le-length, read_back}
use Rattle.answers.specs.Area.{area_of}
use Rattle.answers.proofs.Area.{area_length}
use Rattle.suspects.specs.declared.Suspects.{Suspects}
use Rattle.suspects.specs.State.{remains_in, Opened}
use Rattle.suspect_areas.specs.Bytes.{numbers_of, bytes_of, state_in}

-- as the code reads it
pub read_state : {m : List ℕ} {x y z : ℕ} (a : List ℕ) → m ≡ drop 32 a → x ≡ pair_at a 0 → y ≡ pair_at a 8 → z ≡ pair_at a 24
    → record { marks = m; faults = x; patterns = y; remaining = z } ≡ state_in a
unfolding state_in
read_state a e f g h i = record { marks = e i; faults = f i; patterns = g i; remaining = h i }

-- the marks are copied out of the part behind the front
pub marks_read : (a zeros : List ℕ) {now : List ℕ} → length a ≡ 288 → length zeros ≡ 256
    → now ≡ take (length (take (length a - 32) (drop 32 a))) (take (length a - 32) (drop 32 a)) ++ drop (length (take (length a - 32) (drop 32 a))) zeros
    → now ≡ drop 32 a
marks_read a zeros {now} size z is =
    let all : take (length a - 32) (drop 32 a) ≡ drop 32 a = take_all (length a - 32) (drop 32 a) (rw length-drop (omega arith)) in
    (rw all at is) ∙ copied (drop 32 a) zeros (rw length-drop (omega (arith, size, z)))

-- the two lowest bytes of a number behind p
low_at : (p rest : List ℕ) (at w : ℕ) → length p ≡ at → pair_at (p ++ (le 8 w ++ rest)) at ≡ pair_at (le 2 w) 0
unfolding pair_at le
low_at p rest at w e =
    let low : get_or (p ++ (le 8 w ++ rest)) at 0 ≡ w % 256 = ap (λ (k : ℕ). get_or (p ++ (le 8 w ++ rest)) k 0) (sym e ∙ sym (add-zero (length p))) ∙ get_or-append-add p (le 8 w ++ rest) 0 0 in
    let high : get_or (p ++ (le 8 w ++ rest)) (at + 1) 0 ≡ w / 256 % 256 = ap (λ (k : ℕ). get_or (p ++ (le 8 w ++ rest)) (k + 1) 0) (sym e) ∙ get_or-append-add p (le 8 w ++ rest) 1 0 in
    rw (low, high)

-- they say a small number
number_at : (p rest : List ℕ) (at w : ℕ) → length p ≡ at → w < 65536 → pair_at (p ++ (le 8 w ++ rest)) at ≡ w
number_at p rest at w e l = low_at p rest at w e ∙ read_back w l

pub marks_behind : (s : Suspects) → drop 32 (bytes_of s) ≡ s.marks
unfolding bytes_of
marks_behind s = drop_at (area_of (numbers_of s)) s.marks 32 (area_length (numbers_of s))

-- the size of the table, as far as its two lowest bytes say it
pub product_read : (s : Suspects) → pair_at (bytes_of s) 16 ≡ pair_at (le 2 (s.faults * s.patterns)) 0
unfolding bytes_of area_of
product_read s =
    let front = le 8 s.faults ++ le 8 s.patterns in
    let size = le 8 (s.faults * s.patterns) in
    rw (append_assoc (front ++ size) (le 8 s.remaining) s.marks, append_assoc front size)
    (low_at front _ 16 (s.faults * s.patterns) (simp (length-append, le-length)))

module _ (s : Suspects) (o : Opened s) where
  small : {n : ℕ} → n ≤ 256 → n < 65536
  small l = omega (arith, l)

  pub faults_read : pair_at (bytes_of s) 0 ≡ s.faults
  unfolding bytes_of area_of
  faults_read = simp append_assoc (number_at [] _ 0 s.faults refl (small o.few_faults))

  pub patterns_read : pair_at (bytes_of s) 8 ≡ s.patterns
  unfolding bytes_of area_of
  patterns_read = simp append_assoc (number_at (le 8 s.faults) _ 8 s.patterns (le-length 8 s.faults) (small o.few_patterns))

  pub remaining_read : pair_at (bytes_of s) 24 ≡ s.remaining
  unfolding bytes_of area_of
  remaining_read =
      let front = le 8 s.faults ++ le 8 s.patterns ++ le 8 (s.faults * s.patterns) in
      let few : s.remaining ≤ 256 = omega (arith, o.number, count_most s.faults (remains_in s), o.few_faults) in
      rw (append_assoc front (le 8 s.remaining) s.marks)
      (number_at front s.marks 24 s.remaining (simp (length-append, le-length)) (small few))

  -- the state is read back from its bytes
  pub read_bytes : state_in (bytes_of s) ≡ s
  read_bytes = sym (read_state (bytes_of s) (sym (marks_behind s)) (sym faults_read) (sym patterns_read) (sym remaining_read))

pub bytes-length : (s : Suspects) → length s.marks ≡ 256 → length (bytes_of s) ≡ 288
unfolding bytes_of
bytes-length s e = rw (length-append, area_length (numbers_of s), e)
