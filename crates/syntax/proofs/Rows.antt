-- The table of rows: what `put_rows` writes, and what a step reads off it.
-- Assumes nothing.
use mathlib.Core.Path.{◌≡◌, refl, sym, ap, ◌∙◌}
use mathlib.Core.List.{List}
use Prim.Native.Nat.{ℕ, ◌+◌, ◌*◌, ◌-◌, ◌/◌, ◌≤◌, ◌<◌}
use native.Mathlib.Numerals.{add-one}
use native.Mathlib.Omega.{arith}
use lib.ListN.{length, get_or, take, set, length-set}
use lib.Seq.{take_all, take-suc-set}
use Rattle.ground.specs.Lists.{grow, table}
use Rattle.ground.proofs.Grow.{table_at}
use Rattle.syntax.specs.Owed.{StateTable, Row, Follows, RowTable, state_of}
use Rattle.syntax.proofs.Table.{state_at}

-- the row of the state with a character
abbrev pub row_start : List ℕ → ℕ → ℕ
row_start states k = 23 * (get_or states k 0 - 46)

pub record RowsFilling (states rows : List ℕ) (k : ℕ) : Type 0 where
  pub at_most : k ≤ 1817
  pub long : length rows ≡ 1817
  pub rows_are : take k rows ≡ table (row_start states) k

pub start : (states : List ℕ) {rows : List ℕ} → length rows ≡ 1817 → RowsFilling states rows 0
unfolding grow
start states e = record { at_most = omega arith; long = e; rows_are = refl }

module _ {states rows : List ℕ} {k : ℕ} (f : RowsFilling states rows k) where
  pub more : k < 1817 → {x : ℕ} → x ≡ row_start states k → RowsFilling states (set rows k x) (k + 1)
  unfolding grow
  more l {x} e = record {
    at_most = omega arith;
    long = length-set rows k x ∙ f.long;
    rows_are = rw (add-one, take-suc-set rows k x (omega (arith, f.long)), f.rows_are, e);
  }

  pub all : StateTable states → 1817 ≤ k → RowTable rows
  all s l =
      let e : k ≡ 1817 = omega (arith, f.at_most) in
      let whole : rows ≡ table (row_start states) 1817 = sym (take_all k rows (omega (arith, f.long))) ∙ f.rows_are ∙ ap (table (row_start states)) e in
      record { long = f.long; follows = λ q c h g. go q c h g (ap (λ (t : List ℕ). get_or t (23 * q + 2 + c) 0) whole ∙ table_at (row_start states) 1817 0 (23 * q + 2 + c) (omega arith)) }
    where
      go : (q c : ℕ) → q < 79 → c < 21 → get_or rows (23 * q + 2 + c) 0 ≡ row_start states (23 * q + 2 + c) → Follows q c (get_or rows (23 * q + 2 + c) 0)
      go q c h g e =
          let w = state_at states s q c h g in
          let n : get_or rows (23 * q + 2 + c) 0 / 23 ≡ get_or states (23 * q + 2 + c) 0 - 46 = omega (arith, e) in
          record {
            row = record { begins = omega (arith, e); inside = omega (arith, n, w.high, w.low) };
            state = ap state_of n ∙ w.state;
          }

-- a step from row q
pub step_from : {t : List ℕ} → RowTable t → {q c : ℕ} → Row q → c < 21 → Follows (q / 23) c (get_or t (q + 2 + c) 0)
step_from {t} p {q} {c} r h =
    let e : q + 2 + c ≡ 23 * (q / 23) + 2 + c = omega (arith, r.begins) in
    rw e (p.follows (q / 23) c r.inside h)

-- a text starts at the start of a line
pub first_row : Row 23
first_row = record { begins = refl; inside = omega arith }
