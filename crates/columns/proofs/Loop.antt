-- The loop of `put_column`, as facts about lists.
-- Assumes nothing.
use mathlib.Core.Path.{◌≡◌, refl, ap, ◌∙◌}
use mathlib.Core.Logic.{⊎_elim}
use mathlib.Core.List.{List}
use Prim.Native.Nat.{ℕ, ◌+◌, ◌*◌, ◌/◌, ◌%◌, ◌^◌, ◌≤◌, ◌<◌}
use native.Mathlib.Nat.{suc-mul, zero-mul, mul-le-mul}
use native.Mathlib.Numerals.{add-one}
use native.Mathlib.Omega.{arith}
use lib.ListN.{length, get_or, set, length-set}
use lib.Pow.{shr-shr}
use lib.Seq.{get_or-set_same, get_or-set_other}
use Rattle.ground.proofs.Tests.{either}
use Rattle.columns.specs.declared.EntryLanes.{EntryLanes}
use Rattle.columns.specs.Owed.{ColumnReady, PutColumnDone}
use Rattle.columns.proofs.Places.{same_row, same_column, in_table}
use Rattle.columns.proofs.Entries.{entry_in, entry_in_lem}

-- the first i rows have their entries of the words f and u, of which the bits from i on are left
pub record SoFar (width count j f u : ℕ) (t₀ t : List ℕ) (fails unknowns at i : ℕ) : Type 0 where
  pub at_most : i ≤ count
  pub fails-left : fails ≡ f / 2 ^ i
  pub unknowns_left : unknowns ≡ u / 2 ^ i
  pub place : at ≡ i * width + j
  pub long : length t ≡ length t₀
  pub here : (k : ℕ) → k < i → get_or t (k * width + j) 0 ≡ entry_in f u k
  pub others : (k l : ℕ) → l < width → (l ≡ j → ⊥) → get_or t (k * width + l) 0 ≡ get_or t₀ (k * width + l) 0

pub start : (width count j f u : ℕ) (t : List ℕ) → SoFar width count j f u t t f u j 0
start width count j f u t = record {
  at_most = omega arith;
  fails-left = omega arith;
  unknowns_left = omega arith;
  place = rw zero-mul (omega arith);
  long = refl;
  here = λ k l. absurd (omega arith);
  others = λ k l h n. refl;
}

-- the lowest bit goes
halved : (w i : ℕ) {x : ℕ} → x ≡ w / 2 ^ i → x / 2 ≡ w / 2 ^ (i + 1)
halved w i e = ap (λ (z : ℕ). z / 2) e ∙ shr-shr w i 1

module _ {width count j f u : ℕ} {t₀ t : List ℕ} {fails unknowns at i : ℕ} (ready : ColumnReady width count j (length t₀)) (so : SoFar width count j f u t₀ t fails unknowns at i) where
  pub inside : i < count → at < length t
  inside h = omega (arith, so.place, so.long, ready.size, in_table width count i j h ready.inside)

  -- also past the last row
  pub fits : i < count → at + width ≤ 256 * 64 + 256
  fits h = omega (arith, inside h, so.long, ready.size, ready.columns, mul-le-mul ready.columns ready.rows)

  pub more : i < count → SoFar width count j f u t₀ (set t at (fails % 2 + 2 * (unknowns % 2))) (fails / 2) (unknowns / 2) (at + width) (i + 1)
  more h = record {
    at_most = omega arith;
    fails-left = halved f i so.fails-left;
    unknowns_left = halved u i so.unknowns_left;
    place = rw (add-one, suc-mul) (omega (arith, so.place));
    long = length-set t at _ ∙ so.long;
    here = λ k l. ⊎_elim
        (λ g. get_or-set_other t at (k * width + j) _ 0 (λ q. apart k g q) ∙ so.here k g)
        (λ g. let q : k ≡ i = omega arith in last k q)
        (either k i);
    others = λ k l b n. get_or-set_other t at (k * width + l) _ 0 (λ q. n (same_column k i b ready.inside (q ∙ so.place))) ∙ so.others k l b n;
  }
    where
      apart : (k : ℕ) → k < i → k * width + j ≡ at → ⊥
      apart k g q = let e = same_row k i ready.inside ready.inside (q ∙ so.place) in omega arith

      last : (k : ℕ) → k ≡ i → get_or (set t at (fails % 2 + 2 * (unknowns % 2))) (k * width + j) 0 ≡ entry_in f u k
      last k q = rw (q, ← so.place, get_or-set_same t at (fails % 2 + 2 * (unknowns % 2)) 0 (inside h), so.fails-left, so.unknowns_left)

-- the words whole, of whatever entries
pub finished : {width count j : ℕ} {t₀ t : List ℕ} {fails unknowns at i : ℕ} (words : EntryLanes)
    → ColumnReady width count j (length t₀)
    → SoFar width count j words.fails words.unknowns t₀ t fails unknowns at i
    → count ≤ i
    → PutColumnDone width count j words t₀ t
finished words ready so h e small is = record {
  long = so.long;
  here = λ k l. let q : k < 64 = omega (arith, ready.rows) in so.here k (omega arith) ∙ rw is (entry_in_lem e k q (small k q));
  others = λ k l _. so.others k l;
}
