-- Counts of a set of patterns: what a cell says, and a pattern that comes into the set or leaves it.
-- Assumes nothing.
use mathlib.Core.Path.{◌≡◌, refl, sym, ap, ◌∙◌}
use mathlib.Core.Bool.{Bool, true, false, ◌&&◌, or-false}
use mathlib.Core.List.{List}
use Prim.Native.Nat.{ℕ, ◌+◌, ◌-◌, ◌*◌, ◌%◌, ◌≤◌, ◌<◌}
use native.Mathlib.Omega.{arith}
use lib.ListN.{get_or}
use Rattle.ground.specs.Choose.{one}
use Rattle.ground.specs.Below.{count_below}
use Rattle.ground.proofs.Tests.{one_most}
use Rattle.ground.proofs.Below.{none_any, any_only}
use Rattle.ground.proofs.Counting.{count_same, count_none, count_more}
use Rattle.tables.specs.Entries.{entries_of}
use Rattle.needs.specs.Needs.{Patterns, fails, tells}
use Rattle.needs.proofs.Entries.{tells_other}
use Rattle.counts.specs.Counted.{hit_pair, hit, Counted}
use Rattle.counts.specs.Owed.{CellsDone}
use Rattle.counts.proofs.Moves.{Bytes, row_outside, row_at, pair_outside}

-- ---- what a cell says

module _ (t : List ℕ) (from F : ℕ) (few : F ≤ 256) where
  hit_fault : (f : ℕ) → f < F → hit t from F (256 * F + f) ≡ fails (get_or t (from + f) 0)
  unfolding hit
  hit_fault f l =
      rw (none_any F (hit_pair t from (256 * F + f)) (λ g m. pair_outside t from g (256 * F + f) (λ a b. omega arith)))
      (row_at t from 1 (256 * F) F f l)

  hit-pair : (f g : ℕ) → f < g → g < F → hit t from F (256 * g + f) ≡ tells (get_or t (from + f) 0) (get_or t (from + g) 0)
  unfolding hit hit_pair
  hit-pair f g l m =
      rw (
        any_only F (hit_pair t from (256 * g + f)) g m (λ h k d. pair_outside t from h (256 * g + f) (λ a b. omega arith)),
        row_outside t from 1 (256 * F) F (256 * g + f) (λ a b. omega arith),
        or-false,
        row_at t from (1 - get_or t (from + g) 0) (256 * g) g f l,
      )
      (sym (tells_other (get_or t (from + f) 0) (get_or t (from + g) 0)))

module _ {t : List ℕ} {F P : ℕ} {K : Patterns} {c : List ℕ} (counted : Counted t F P K c) where
  -- a cell whose pattern counts where the test holds
  cell_is : (k : ℕ) (h : ℕ → Bool) → ((q : ℕ) → hit t (q * F) F k ≡ h q) → get_or c k 0 ≡ count_below P (λ q. K q && h q) % 256
  cell_is k h is =
      counted.cell k
      ∙ ap (λ (n : ℕ). n % 256) (count_same P (λ q. K q && hit t (q * F) F k) (λ q. K q && h q) (λ q _. ap (λ (b : Bool). K q && b) (is q)))

  pub fault_cell : F ≤ 256 → (f : ℕ) → f < F → get_or c (256 * F + f) 0 ≡ count_below P (λ q. K q && fails (entries_of F t q f)) % 256
  fault_cell few f l = cell_is (256 * F + f) (λ q. fails (entries_of F t q f)) (λ q. hit_fault t (q * F) F few f l)

  pub pair_cell : F ≤ 256 → (f g : ℕ) → f < g → g < F → get_or c (256 * g + f) 0 ≡ count_below P (λ q. K q && tells (entries_of F t q f) (entries_of F t q g)) % 256
  pair_cell few f g l m = cell_is (256 * g + f) (λ q. tells (entries_of F t q f) (entries_of F t q g)) (λ q. hit-pair t (q * F) F few f g l m)

  -- two sets that agree
  pub counted_same : (L : Patterns) → ((q : ℕ) → q < P → K q ≡ L q) → Counted t F P L c
  counted_same L same = record {
    cell = λ k.
        counted.cell k
        ∙ ap (λ (n : ℕ). n % 256) (count_same P (λ q. K q && hit t (q * F) F k) (λ q. L q && hit t (q * F) F k) (λ q l. ap (λ (b : Bool). b && hit t (q * F) F k) (same q l)));
  }

-- ---- the pattern p comes into the set K, which is then L; or leaves L, which is then K

module _ (P p : ℕ) (l : p < P) (K L : Patterns) (off : K p ≡ false) (on : L p ≡ true) (same : (q : ℕ) → q < P → (q ≡ p → ⊥) → K q ≡ L q) where
  pub count_step : (h : ℕ → Bool) → count_below P (λ q. L q && h q) ≡ count_below P (λ q. K q && h q) + one (h p)
  count_step h =
      count_more P (λ q. K q && h q) (λ q. L q && h q) p l (ap (λ (b : Bool). b && h p) off) (λ q m n. ap (λ (b : Bool). b && h q) (same q m n))
      ∙ ap (λ (b : Bool). count_below P (λ q. K q && h q) + one (b && h p)) on

  module _ {t : List ℕ} {F : ℕ} {c d : List ℕ} where
    pub counted_in : Counted t F P K c → CellsDone true (hit t (p * F) F) c d → Counted t F P L d
    counted_in a m = record { cell = λ k. omega (arith, a.cell k, m.cell k, count_step (λ q. hit t (q * F) F k)) }

    pub counted_out : Counted t F P L c → CellsDone false (hit t (p * F) F) c d → Bytes d → Counted t F P K d
    counted_out a m byte = record {
      cell = λ k. omega (arith, a.cell k, m.cell k, byte k, count_step (λ q. hit t (q * F) F k), one_most (hit t (p * F) F k));
    }

-- no pattern is counted where every cell is 0
pub counted_none : {t : List ℕ} {F P : ℕ} {c : List ℕ} → ((k : ℕ) → get_or c k 0 ≡ 0) → Counted t F P (λ q. false) c
counted_none {t} {F} {P} {c} none = record { cell = λ k. none k ∙ ap (λ (n : ℕ). n % 256) (sym (count_none P (λ q. false) (λ q _. refl))) }
