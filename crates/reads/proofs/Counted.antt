-- Readings counted pin by pin, as far as 2.
-- Assumes nothing.
use mathlib.Core.Path.{◌≡◌, refl, sym, ap, ◌∙◌}
use mathlib.Core.Bool.{Bool, true, false}
use mathlib.Core.List.{List}
use Prim.Native.Nat.{ℕ, suc, ◌+◌, ◌≤◌, ◌<◌}
use native.Mathlib.Decide.{ℕ_discrete}
use native.Mathlib.Numerals.{add-one}
use native.Mathlib.Omega.{arith}
use lib.Dec.{eqb, leb}
use lib.ListN.{length, get_or, set, replicate, length-set, get_or-replicate}
use lib.Seq.{get_or-set_same, get_or-set_other}
use borrow.Author.Tests.{eq-eqb, ne_eqb, lt-leb, le-leb, leb-true, leb-false}
use Rattle.ground.specs.Choose.{one}
use Rattle.ground.specs.Below.{count_below}
use Rattle.ground.proofs.Counting.{count_suc}
use Rattle.gates.specs.Gate.{pins_of}
use Rattle.circuit.specs.Record.{kind_at, pin_at}
use Rattle.reads.specs.Reads.{sum_below, pins_reading, reads_by, reads_of, branches}
use Rattle.reads.specs.Owed.{up_to_two, OneMore, ReadsCounted, CountsMore, pin_adds, line_adds}

-- ---- a number as far as 2

pub two_or_more : (x : ℕ) → 2 ≤ x → up_to_two x ≡ 2
unfolding up_to_two
two_or_more x h = rw (le-leb 2 x h)

pub below_two : (x : ℕ) → x < 2 → up_to_two x ≡ x
unfolding up_to_two
below_two x h = rw (lt-leb 2 x h)

-- the first reading, and any other
pub first_more : {read : ℕ} → read ≡ 0 → OneMore read 1
unfolding up_to_two
first_more {read} z x e = go (leb 2 x) refl
  where
    go : (t : Bool) → leb 2 x ≡ t → 1 ≡ up_to_two (x + 1)
    go true q = absurd (omega (arith, two_or_more x (leb-true 2 x q)))
    go false q = let y : x ≡ 0 = omega (arith, below_two x (leb-false 2 x q)) in rw y

pub next_more : {read : ℕ} → (read ≡ 0 → ⊥) → OneMore read 2
next_more {read} some x e = go (ℕ_discrete x 0)
  where
    go : Dec (x ≡ 0) → 2 ≡ up_to_two (x + 1)
    go (yes z) = absurd (some (e ∙ rw z (below_two 0 (omega arith))))
    go (no d) = sym (two_or_more (x + 1) (omega arith))

-- ---- the bytes of all lines

pub counted_as : {n : ℕ} {g h : ℕ → ℕ} {bytes : List ℕ} → ((k : ℕ) → g k ≡ h k) → ReadsCounted n g bytes → ReadsCounted n h bytes
counted_as same p = record { long = p.long; are = λ k l. p.are k l ∙ ap up_to_two (same k) }

-- a pin's own line is counted once more, and no other
pub pin_counted : (c : List ℕ) (j s : ℕ) (bytes : List ℕ) {i r : ℕ} → i ≡ pin_at c j s → i < length bytes → OneMore (get_or bytes i 0) r → CountsMore (length bytes) (pin_adds c j s) bytes (set bytes i r)
pin_counted c j s bytes {i} {r} is inside more g p = record {
  long = length-set bytes i r;
  are = λ k l. go k l (ℕ_discrete i k);
}
  where
    go : (k : ℕ) → k < length bytes → Dec (i ≡ k) → get_or (set bytes i r) k 0 ≡ up_to_two (g k + one (eqb (pin_at c j s) k))
    go k l (yes e) =
        rw (eq-eqb (pin_at c j s) k (sym is ∙ e), ← e) (get_or-set_same bytes i r 0 inside ∙ more (g i) (p.are i inside))
    go k l (no d) =
        let z : g k + 0 ≡ g k = omega arith in
        rw (ne_eqb (pin_at c j s) k (λ e. d (is ∙ e)), z) (get_or-set_other bytes i k r 0 (λ e. d (sym e)) ∙ p.are k l)

-- the pins of a line, of which s are counted
pub record Pins (c : List ℕ) (j has : ℕ) (bytes₀ bytes : List ℕ) (s : ℕ) : Type 0 where
  pub at_most : s ≤ has
  pub long : length bytes ≡ length bytes₀
  pub more : CountsMore (length bytes₀) (λ k. pins_reading c k j s) bytes₀ bytes

pub no_pin : (c : List ℕ) (j has : ℕ) (bytes : List ℕ) → Pins c j has bytes bytes 0
unfolding count_below
no_pin c j has bytes = record { at_most = omega arith; long = refl; more = λ g p. counted_as (λ k. omega arith) p }

module _ {c : List ℕ} {j has : ℕ} {bytes₀ bytes : List ℕ} {s : ℕ} (so : Pins c j has bytes₀ bytes s) where
  pub next-pin : {bytes' : List ℕ} → s < has → length bytes' ≡ length bytes → CountsMore (length bytes) (pin_adds c j (s + 1)) bytes bytes' → Pins c j has bytes₀ bytes' (s + 1)
  next-pin {bytes'} l long p = record {
    at_most = omega arith;
    long = long ∙ so.long;
    more = λ g q. counted_as (adds g) ((rw so.long at p) (λ k. g k + pins_reading c k j s) (so.more g q));
  }
    where
      adds : (g : ℕ → ℕ) (k : ℕ) → g k + pins_reading c k j s + pin_adds c j (s + 1) k ≡ g k + pins_reading c k j (s + 1)
      adds g k =
          let e : s + 1 ≡ suc s = add-one s in
          rw e (omega (arith, count_suc s (λ i. eqb (pin_at c j (suc i)) k)))

  pub all_pins : has ≤ s → has ≡ pins_of (kind_at c j) → CountsMore (length bytes₀) (line_adds c j) bytes₀ bytes
  unfolding reads_by
  all_pins l e =
      let q : s ≡ pins_of (kind_at c j) = omega (arith, so.at_most) in
      rw q at so.more

-- the lines, of which j are counted
pub record Lines (c : List ℕ) (bytes₀ bytes : List ℕ) (j : ℕ) : Type 0 where
  pub at_most : j ≤ length bytes₀
  pub long : length bytes ≡ length bytes₀
  pub counted : ReadsCounted (length bytes₀) (λ k. sum_below j (reads_by c k)) bytes

pub no_line : (c bytes : List ℕ) → bytes ≡ replicate (length bytes) 0 → Lines c bytes bytes 0
unfolding sum_below
no_line c bytes zeros = record {
  at_most = omega arith;
  long = refl;
  counted = record { long = refl; are = λ k l. (ap (λ (b : List ℕ). get_or b k 0) zeros ∙ get_or-replicate (length bytes) k 0 0 l) ∙ sym (below_two 0 (omega arith)) };
}

module _ {c bytes₀ bytes : List ℕ} {j : ℕ} (so : Lines c bytes₀ bytes j) where
  pub next-line : {bytes' : List ℕ} → j < length bytes₀ → length bytes' ≡ length bytes → CountsMore (length bytes) (line_adds c j) bytes bytes' → Lines c bytes₀ bytes' (j + 1)
  unfolding sum_below
  next-line {bytes'} l long p =
      let e : j + 1 ≡ suc j = add-one j in
      record {
        at_most = omega arith;
        long = long ∙ so.long;
        counted = rw e ((rw so.long at p) (λ k. sum_below j (reads_by c k)) so.counted);
      }

  pub all_lines : length bytes₀ ≤ j → ReadsCounted (length bytes₀) (reads_of c (length bytes₀)) bytes
  unfolding reads_of
  all_lines l =
      let e : j ≡ length bytes₀ = omega (arith, so.at_most) in
      rw e at so.counted

-- a line branches exactly if its byte is 2
pub counted_branches : (c : List ℕ) {n : ℕ} {bytes : List ℕ} → ReadsCounted n (reads_of c n) bytes → (k : ℕ) → k < n → eqb (get_or bytes k 0) 2 ≡ branches c n k
counted_branches c {n} {bytes} p k l = ap (λ (x : ℕ). eqb x 2) (p.are k l) ∙ go (leb 2 (reads_of c n k)) refl
  where
    go : (t : Bool) → leb 2 (reads_of c n k) ≡ t → eqb (up_to_two (reads_of c n k)) 2 ≡ t
    go true e = eq-eqb _ 2 (two_or_more (reads_of c n k) (leb-true 2 _ e))
    go false e = ne_eqb (up_to_two (reads_of c n k)) 2 (λ q. omega (arith, leb-false 2 (reads_of c n k) e, below_two (reads_of c n k) (leb-false 2 _ e)))
