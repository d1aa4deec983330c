-- How often a line is read, and the pins that read it: the numbers say what the words say.
-- Assumes nothing.
use mathlib.Core.Path.{◌≡◌}
use mathlib.Core.Logic.{inl, inr, ⊎_elim}
use mathlib.Core.List.{List}
use Prim.Native.Nat.{ℕ, suc, ◌-◌, ◌≤◌, ◌<◌}
use native.Mathlib.Decide.{ℕ_discrete}
use native.Mathlib.Omega.{arith}
use lib.Dec.{eqb}
use borrow.Author.Tests.{eq-eqb, ne_eqb, leb-true, le-leb}
use Rattle.ground.specs.Choose.{one}
use Rattle.ground.proofs.Tests.{either, one_most}
use Rattle.answers.specs.Rules.{Same}
use Rattle.gates.specs.Gate.{pins_of}
use Rattle.circuit.specs.Record.{kind_at, pin_at}
use Rattle.reads.specs.Reads.{sum_below, reads_by, reads_of, branches}
use Rattle.reads.specs.Words.{PinReads, Branches}
use Rattle.reads.proofs.Sums.{sum_one, sum_two, sum_some, TwoBelow, sum_branches, count_sum}

module _ (c : List ℕ) (n k : ℕ) where
  -- 1 for pin i of line j, counted from 0, if it reads k
  abbrev pin : ℕ → ℕ → ℕ
  pin j i = one (eqb (pin_at c j (suc i)) k)

  by_sum : (j : ℕ) → reads_by c k j ≡ sum_below (pins_of (kind_at c j)) (pin j)
  unfolding reads_by
  by_sum j = count_sum (pins_of (kind_at c j)) (λ i. eqb (pin_at c j (suc i)) k)

  reads_pin : {j s : ℕ} → PinReads c n k j s → pin j (s - 1) ≡ 1
  reads_pin {j} {s} r =
      let e : suc (s - 1) ≡ s = omega (arith, r.some) in
      rw (e, eq-eqb (pin_at c j s) k r.is)

  pin_reads : {j i : ℕ} → j < n → i < pins_of (kind_at c j) → 1 ≤ pin j i → PinReads c n k j (suc i)
  pin_reads {j} {i} l h q = record { line = l; some = omega arith; has = h; is = go (ℕ_discrete (pin_at c j (suc i)) k) q }
    where
      go : Dec (pin_at c j (suc i) ≡ k) → 1 ≤ pin j i → pin_at c j (suc i) ≡ k
      go (yes e) _ = e
      go (no d) q = absurd (omega (arith, (rw (ne_eqb (pin_at c j (suc i)) k d) at q)))

  -- ---- the pins of one line

  by_one : {j s : ℕ} → PinReads c n k j s → 1 ≤ reads_by c k j
  by_one {j} {s} r =
      rw (by_sum j) (omega (arith, sum_one (pins_of (kind_at c j)) (pin j) (s - 1) (omega (arith, r.some, r.has)), reads_pin r))

  by_two : {j s t : ℕ} → s < t → PinReads c n k j s → PinReads c n k j t → 2 ≤ reads_by c k j
  by_two {j} {s} {t} l r q =
      rw (by_sum j)
      (omega (arith, sum_two (pins_of (kind_at c j)) (pin j) (s - 1) (t - 1) (omega (arith, r.some)) (omega (arith, r.some, q.has)), reads_pin r, reads_pin q))

  some_by : {j : ℕ} → j < n → 1 ≤ reads_by c k j → (s : ℕ) × PinReads c n k j s
  some_by {j} l h =
      let w = sum_some (pins_of (kind_at c j)) (pin j) (rw (← by_sum j) h) in
      (suc w.0, pin_reads l w.1 w.2)

  two_by : {j : ℕ} → j < n → 2 ≤ reads_by c k j → Branches c n k
  two_by {j} l h = go (sum_branches (pins_of (kind_at c j)) (pin j) (rw (← by_sum j) h))
    where
      go : TwoBelow (pins_of (kind_at c j)) (pin j) → Branches c n k
      go (inl w) = absurd (omega (arith, one_most (eqb (pin_at c j (suc w.0)) k), w.2))
      go (inr w) = record {
        j = j;
        s = suc w.0;
        i = j;
        t = suc w.1;
        one = pin_reads l (omega (arith, w.2, w.3)) w.4;
        other = pin_reads l w.3 w.5;
        apart = λ _ e. omega (arith, w.2);
      }

  -- ---- of all lines

  -- a line that a pin reads is read
  pub read_once : {j s : ℕ} → PinReads c n k j s → 1 ≤ reads_of c n k
  unfolding reads_of
  read_once {j} r = omega (arith, by_one r, sum_one n (reads_by c k) j r.line)

  -- and one that is read has a pin that reads it
  pub reads_some : 1 ≤ reads_of c n k → (j : ℕ) × (s : ℕ) × PinReads c n k j s
  unfolding reads_of
  reads_some h =
      let w = sum_some n (reads_by c k) h in
      let r = some_by w.1 w.2 in
      (w.0, r.0, r.1)

  -- two pins that read it make two readings
  two_read : Branches c n k → 2 ≤ reads_of c n k
  unfolding reads_of
  two_read b = go (ℕ_discrete b.j b.i)
    where
      go : Dec (b.j ≡ b.i) → 2 ≤ sum_below n (reads_by c k)
      go (yes e) =
          let o : PinReads c n k b.i b.s = rw e at b.one in
          let d : b.s ≡ b.t → ⊥ = b.apart e in
          let own : 2 ≤ reads_by c k b.i =
          ⊎_elim (λ l. by_two l o b.other) (λ l. by_two (omega arith) b.other o) (either b.s b.t) in
          omega (arith, sum_one n (reads_by c k) b.i b.other.line)
      go (no d) =
          ⊎_elim
          (λ l. omega (arith, sum_two n (reads_by c k) b.j b.i l b.other.line, by_one b.one, by_one b.other))
          (λ l. omega (arith, sum_two n (reads_by c k) b.i b.j (omega arith) b.one.line, by_one b.one, by_one b.other))
          (either b.j b.i)

  -- and two readings are of two pins
  read_two : 2 ≤ reads_of c n k → Branches c n k
  unfolding reads_of
  read_two h = go (sum_branches n (reads_by c k) h)
    where
      go : TwoBelow n (reads_by c k) → Branches c n k
      go (inl w) = two_by w.1 w.2
      go (inr w) =
          let r = some_by {j = w.0} (omega (arith, w.2, w.3)) w.4 in
          let q = some_by {j = w.1} w.3 w.5 in
          record { j = w.0; s = r.0; i = w.1; t = q.0; one = r.1; other = q.1; apart = λ e _. omega (arith, w.2) }

  -- a line branches exactly if two pins read it
  pub branches_says : Same (branches c n k) (Branches c n k)
  branches_says = record { holds = λ e. read_two (leb-true 2 _ e); tests = λ b. le-leb 2 _ (two_read b) }

  -- a line that does not branch has one reading pin at most
  pub one_reader : {j i s t : ℕ} → reads_of c n k < 2 → PinReads c n k j s → PinReads c n k i t → (j ≡ i) × (s ≡ t)
  one_reader {j} {i} {s} {t} few r q = go (ℕ_discrete j i) (ℕ_discrete s t)
    where
      go : Dec (j ≡ i) → Dec (s ≡ t) → (j ≡ i) × (s ≡ t)
      go (yes e) (yes f) = (e, f)
      go (yes e) (no d) = absurd (omega (arith, two_read (record { j = j; s = s; i = i; t = t; one = r; other = q; apart = λ _ f. d f })))
      go (no d) u = absurd (omega (arith, two_read (record { j = j; s = s; i = i; t = t; one = r; other = q; apart = λ e _. d e })))
