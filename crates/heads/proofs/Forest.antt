-- The free lines form trees: a source of a free line is free, no head line, and read by that one pin alone; a bound line reads bound lines and head lines.
-- Assumes nothing.
use mathlib.Core.Path.{◌≡◌, refl, sym, ap, ◌∙◌}
use mathlib.Core.Logic.{◌⊎◌, inl, inr}
use mathlib.Core.Bool.{Bool, true, false, not, ◌&&◌, ◌||◌, true≢false, false≢true}
use mathlib.Core.List.{List}
use Prim.Native.Nat.{ℕ, suc, ◌≤◌, ◌<◌}
use native.Mathlib.Omega.{arith}
use lib.Dec.{eqb}
use borrow.Author.Tests.{eq-eqb, eqb-true, leb-false, lt-leb}
use Rattle.ground.proofs.Tests.{both, neither}
use Rattle.ground.proofs.Below.{any_some, some_any, any_same}
use Rattle.ground.proofs.Grow.{grow_at, grow_meet}
use Rattle.gates.specs.Gate.{pins_of}
use Rattle.circuit.specs.Record.{kind_at, pin_at, is_input}
use Rattle.circuit.specs.Formed.{WellFormed}
use Rattle.reads.specs.Reads.{reads_of, branches}
use Rattle.reads.specs.Words.{PinReads}
use Rattle.reads.proofs.Pins.{one_reader}
use Rattle.heads.specs.Heads.{some_pin, bound_in, bound, read_by_bound, head}
use Rattle.heads.proofs.Pins.{some-pin, pin-some, reads_it, it_reads, has-pin, pin_lower, reads}

-- what a bound line reads: a bound line or a head line
abbrev pub Kept : List ℕ → ℕ → ℕ → Type 0
Kept c n k = (bound c n k ≡ true) ⊎ (head c n k ≡ true)

module _ {c : List ℕ} {m n : ℕ} (well : WellFormed c m n) where
  -- a line is bound exactly if some pin of it reads a line that branches or is bound
  pub bound_law : (k : ℕ) → k < n → bound c n k ≡ some_pin c k (λ j. branches c n j || bound c n j)
  unfolding bound bound_in some_pin
  bound_law k l =
      grow_at (bound_in c n) false n k l
      ∙ any_same (pins_of (kind_at c k)) _ _
      (λ s h.
      let low : pin_at c k (suc s) < k = pin_lower well k (suc s) l (omega arith) h in
      ap (λ (b : Bool). branches c n (pin_at c k (suc s)) || b) (grow_meet (bound_in c n) false k n (pin_at c k (suc s)) low (omega arith)))

  pub reached : {k j s : ℕ} → PinReads c n j k s → (branches c n j || bound c n j) ≡ true → bound c n k ≡ true
  reached {k} {j} {s} r e =
      bound_law k r.line
      ∙ some-pin c k (λ i. branches c n i || bound c n i) (record { pin = s; some = r.some; has = r.has; passes = rw r.is e })

  -- an input is free
  pub input-free : (k : ℕ) → k < n → is_input c k ≡ true → bound c n k ≡ false
  input-free k l e = go (bound c n k) refl
    where
      go : (t : Bool) → bound c n k ≡ t → t ≡ false
      go true q =
          let w = pin-some c k (λ j. branches c n j || bound c n j) (sym (bound_law k l) ∙ q) in
          absurd (has-pin (kind_at c k) w.pin w.some w.has (eqb-true _ 0 e))
      go false q = refl

  -- so a bound line is a gate
  pub bound-gate : (k : ℕ) → k < n → bound c n k ≡ true → kind_at c k ≡ 0 → ⊥
  bound-gate k l e z = true≢false (sym e ∙ input-free k l (eq-eqb _ 0 z))

  -- ---- read by a bound line

  pub bound_reader : (k : ℕ) → read_by_bound c n k ≡ true → (j : ℕ) × (s : ℕ) × PinReads c n k j s × (bound c n j ≡ true)
  unfolding read_by_bound
  bound_reader k e =
      let w = some_any n (λ j. bound c n j && some_pin c j (λ i. eqb i k)) e in
      let h = both (bound c n w.0) _ w.2 in
      let q = it_reads c k w.0 w.1 h.1 in
      (w.0, q.0, q.1, h.0)

  pub reader_bound : {k j s : ℕ} → PinReads c n k j s → bound c n j ≡ true → read_by_bound c n k ≡ true
  unfolding read_by_bound
  reader_bound {k} {j} r e = any_some n (λ j. bound c n j && some_pin c j (λ i. eqb i k)) j r.line (rw (e, reads_it r))

  -- a head line is free
  pub head-free : (k : ℕ) → head c n k ≡ true → bound c n k ≡ false
  unfolding head
  head-free k = go (bound c n k)
    where
      go : (t : Bool) → (not t && (read_by_bound c n k || branches c n k)) ≡ true → t ≡ false
      go true e = absurd (false≢true e)
      go false e = refl

  -- ---- the sources of a line

  module _ (k s : ℕ) (l : k < n) (a : 1 ≤ s) (b : s ≤ pins_of (kind_at c k)) where
    -- of a bound line: bound or a head line
    pub bound_sources : bound c n k ≡ true → bound c n (pin_at c k s) ≡ false → head c n (pin_at c k s) ≡ true
    unfolding head
    bound_sources e free = rw (free, reader_bound (reads well k s l a b) e)

    pub source_kept : bound c n k ≡ true → Kept c n (pin_at c k s)
    source_kept e = go (bound c n (pin_at c k s)) refl
      where
        go : (t : Bool) → bound c n (pin_at c k s) ≡ t → (t ≡ true) ⊎ (head c n (pin_at c k s) ≡ true)
        go true q = inl refl
        go false q = inr (bound_sources e q)

    -- of a free line: it does not branch, and is free
    pub free_sources : bound c n k ≡ false → (reads_of c n (pin_at c k s) < 2) × (bound c n (pin_at c k s) ≡ false)
    free_sources free = go (branches c n (pin_at c k s) || bound c n (pin_at c k s)) refl
      where
        go : (t : Bool) → (branches c n (pin_at c k s) || bound c n (pin_at c k s)) ≡ t → (reads_of c n (pin_at c k s) < 2) × (bound c n (pin_at c k s) ≡ false)
        go true e = absurd (false≢true (sym free ∙ reached (reads well k s l a b) e))
        go false e = let w = neither (branches c n (pin_at c k s)) _ e in (leb-false 2 _ w.0, w.1)

    -- and is read by that pin alone
    pub only_reader : bound c n k ≡ false → {j p : ℕ} → PinReads c n (pin_at c k s) j p → (j ≡ k) × (p ≡ s)
    only_reader free r = one_reader c n (pin_at c k s) (free_sources free).0 r (reads well k s l a b)

    -- so it is no head line
    pub source_no-head : bound c n k ≡ false → head c n (pin_at c k s) ≡ false
    unfolding head
    source_no-head free = go (read_by_bound c n (pin_at c k s)) refl
      where
        go : (t : Bool) → read_by_bound c n (pin_at c k s) ≡ t → (not (bound c n (pin_at c k s)) && (t || branches c n (pin_at c k s))) ≡ false
        go true e =
            let w = bound_reader (pin_at c k s) e in
            absurd (false≢true (sym free ∙ ap (bound c n) (sym (only_reader free w.2).0) ∙ w.3))
        go false e = let w = free_sources free in rw (w.1, lt-leb 2 _ w.0)
