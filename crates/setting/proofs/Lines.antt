-- The loops over the pins of a line and over the lines, the highest first.
-- Assumes nothing.
use mathlib.Core.Path.{◌≡◌, refl, sym, ap, ◌∙◌}
use mathlib.Core.List.{List}
use Prim.Native.Nat.{ℕ, suc, ◌+◌, ◌-◌, ◌≤◌, ◌<◌}
use native.Mathlib.Numerals.{add-one}
use native.Mathlib.Omega.{arith}
use lib.ListN.{length, get_or, set, length-set}
use borrow.Author.Tests.{eq-eqb, ne_eqb}
use Rattle.gates.specs.Gate.{pins_of}
use Rattle.gates.proofs.Laws.{few_pins}
use Rattle.circuit.specs.Record.{kind_at, pin_at}
use Rattle.heads.specs.Marks.{Marked}
use Rattle.heads.proofs.Marks.{bounds}
use Rattle.trees.specs.Need.{need_of}
use Rattle.trees.specs.Setting.{put_pins, set_line, set_below}

-- ---- the pins of a line

pub record Pins (c : List ℕ) (k v : ℕ) (w₀ : List ℕ) (kind has : ℕ) (w : List ℕ) (s : ℕ) : Type 0 where
  pub kind_is : kind ≡ kind_at c k
  pub has-is : has ≡ pins_of (kind_at c k)
  pub few : has ≤ 3
  pub at_most : s ≤ has
  pub long : length w ≡ length w₀
  pub are : w ≡ put_pins c k v s w₀

pub no_pin : {c : List ℕ} {k v : ℕ} {w : List ℕ} {kind has : ℕ} → kind ≡ kind_at c k → has ≡ pins_of kind → Pins c k v w kind has w 0
unfolding put_pins
no_pin {c} {k} e q = record {
  kind_is = e;
  has-is = q ∙ ap pins_of e;
  few = omega (arith, few_pins (kind_at c k), q ∙ ap pins_of e);
  at_most = omega arith;
  long = refl;
  are = refl;
}

module _ {c : List ℕ} {k v : ℕ} {w₀ : List ℕ} {kind has : ℕ} {w : List ℕ} {s : ℕ} (so : Pins c k v w₀ kind has w s) where
  pub next-pin : {i x : ℕ} → s < has → x ≡ need_of kind v (s + 1) → i ≡ pin_at c k (s + 1) → Pins c k v w₀ kind has (set w i x) (s + 1)
  unfolding put_pins
  next-pin {i} {x} l e q = record {
    kind_is = so.kind_is;
    has-is = so.has-is;
    few = so.few;
    at_most = omega arith;
    long = length-set w i x ∙ so.long;
    are = rw (e, q, so.kind_is, add-one s, so.are);
  }

  pub all_pins : has ≤ s → w ≡ put_pins c k v (pins_of (kind_at c k)) w₀
  all_pins l = let e : s ≡ pins_of (kind_at c k) = omega (arith, so.at_most, so.has-is) in rw (← e) so.are

-- ---- one line

module _ {c : List ℕ} (w : List ℕ) {marks : List ℕ} {k : ℕ} (marked : Marked c (length w) marks) (l : k < length w) where
  pub line-bound : get_or marks k 0 ≡ 2 → w ≡ set_line c (length w) k w
  unfolding set_line
  line-bound e = rw (sym (bounds marked k l) ∙ eq-eqb _ 2 e)

  pub line-free : {w' : List ℕ} → (get_or marks k 0 ≡ 2 → ⊥) → w' ≡ put_pins c k (get_or w k 0) (pins_of (kind_at c k)) w → w' ≡ set_line c (length w) k w
  unfolding set_line
  line-free d e = e ∙ rw (sym (bounds marked k l) ∙ ne_eqb _ 2 d)

-- ---- the lines: those from k on are done

pub record Below (c : List ℕ) (w₀ w : List ℕ) (k : ℕ) : Type 0 where
  pub at_most : k ≤ length w₀
  pub long : length w ≡ length w₀
  pub rest : set_below c (length w₀) k w ≡ set_below c (length w₀) (length w₀) w₀

pub all_below_lem : (c w : List ℕ) → Below c w w (length w)
all_below_lem c w = record { at_most = omega arith; long = refl; rest = refl }

pub next_below : {c w₀ w w' : List ℕ} {k : ℕ} → Below c w₀ w k → 0 < k → length w' ≡ length w → w' ≡ set_line c (length w) (k - 1) w → Below c w₀ w' (k - 1)
unfolding set_below
next_below {c} {w₀} {w} {w'} {k} so some l e =
    let q : k ≡ suc (k - 1) = omega arith in
    record {
      at_most = omega (arith, so.at_most);
      long = l ∙ so.long;
      rest = ap (set_below c (length w₀) (k - 1)) (e ∙ ap (λ (n : ℕ). set_line c n (k - 1) w) so.long) ∙ (rw q at so.rest);
    }

pub none_below : {c w₀ w : List ℕ} {k : ℕ} → Below c w₀ w k → k ≤ 0 → w ≡ set_below c (length w₀) (length w₀) w₀
unfolding set_below
none_below {k = k} so l = let e : k ≡ 0 = omega arith in rw e at so.rest
