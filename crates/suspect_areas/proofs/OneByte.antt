-- A single changed byte is noticed: of the bytes of an opened state, changing any one gives bytes of no opened state.
-- Assumes nothing.
use mathlib.Core.Path.{◌≡◌, sym, ap, ap₂, ◌∙◌}
use mathlib.Core.Logic.{⊎_elim}
use mathlib.Core.List.{List}
use Prim.Native.Nat.{ℕ, ◌+◌, ◌*◌, ◌/◌, ◌%◌, ◌≤◌, ◌<◌}
use native.Mathlib.Decide.{ℕ_discrete}
use native.Mathlib.Nat.{mul-le-mul, eq_of_mul-eq-mul_left, eq_of_mul-eq-mul_right}
use native.Mathlib.Omega.{arith}
use lib.Dec.{eqb}
use lib.ListN.{length, get_or}
use lib.Seq.{get_or-drop}
use Rattle.ground.proofs.Tests.{either}
use Rattle.ground.proofs.Counting.{one_test_lem}
use Rattle.little.specs.Little.{le, pair_at}
use Rattle.suspects.specs.declared.Suspects.{Suspects}
use Rattle.suspects.specs.State.{state_of, remains_in, Opened}
use Rattle.suspects.proofs.State.{same_state, opened_is}
use Rattle.suspect_areas.specs.Bytes.{bytes_of, Held}
use Rattle.suspect_areas.proofs.Read.{marks_behind, faults_read, patterns_read, product_read, remaining_read}

-- their two lowest bytes tell the numbers from 1 to 65,536 apart
low-tells : (w v : ℕ) → 1 ≤ w → w ≤ 65536 → 1 ≤ v → v ≤ 65536 → pair_at (le 2 w) 0 ≡ pair_at (le 2 v) 0 → w ≡ v
unfolding pair_at le
low-tells w v a b c d e =
    let high : w / 256 % 256 ≡ v / 256 % 256 = omega arith in
    let rest : w / 256 / 256 ≡ v / 256 / 256 = omega arith in
    omega arith

mark_read : (s : Suspects) (f : ℕ) → get_or (bytes_of s) (32 + f) 0 ≡ get_or s.marks f 0
mark_read s f = sym (get_or-drop 32 (bytes_of s) f 0) ∙ ap (λ (m : List ℕ). get_or m f 0) (marks_behind s)

-- ---- two opened states whose bytes agree at every place but i

module _ (s t : Suspects) (o : Opened s) (p : Opened t) (i : ℕ) (same : (j : ℕ) → (j ≡ i → ⊥) → get_or (bytes_of s) j 0 ≡ get_or (bytes_of t) j 0) where
  pair_same : (at : ℕ) → (at ≡ i → ⊥) → (at + 1 ≡ i → ⊥) → pair_at (bytes_of s) at ≡ pair_at (bytes_of t) at
  unfolding pair_at
  pair_same at low high = rw (same at low, same (at + 1) high)

  -- what byte i is not of
  same_faults : 8 ≤ i → s.faults ≡ t.faults
  same_faults l = sym (faults_read s o) ∙ pair_same 0 (omega arith) (omega arith) ∙ faults_read t p

  same_patterns : (8 ≡ i → ⊥) → (9 ≡ i → ⊥) → s.patterns ≡ t.patterns
  same_patterns low high = sym (patterns_read s o) ∙ pair_same 8 low high ∙ patterns_read t p

  same-product : i < 16 → s.faults * s.patterns ≡ t.faults * t.patterns
  same-product l =
      low-tells _ _ (mul-le-mul o.some_fault o.some_pattern) (mul-le-mul o.few_faults o.few_patterns)
      (mul-le-mul p.some_fault p.some_pattern) (mul-le-mul p.few_faults p.few_patterns)
      (sym (product_read s) ∙ pair_same 16 (omega arith) (omega arith) ∙ product_read t)

  same_remaining : 32 ≤ i → s.remaining ≡ t.remaining
  same_remaining l = sym (remaining_read s o) ∙ pair_same 24 (omega arith) (omega arith) ∙ remaining_read t p

  same-mark : (f : ℕ) → (32 + f ≡ i → ⊥) → remains_in s f ≡ remains_in t f
  same-mark f n = ap (λ (x : ℕ). eqb x 1) (sym (mark_read s f) ∙ same (32 + f) n ∙ mark_read t f)

  -- a count, where byte i is of it: by the other count and their product
  faults_same : s.faults ≡ t.faults
  faults_same = ⊎_elim changed same_faults (either i 8)
    where
      changed : i < 8 → s.faults ≡ t.faults
      changed l =
          let other = same_patterns (omega arith) (omega arith) in
          eq_of_mul-eq-mul_right t.patterns p.some_pattern _ _ (rw other at (same-product (omega arith)))

  patterns_same : s.patterns ≡ t.patterns
  patterns_same =
      ⊎_elim (λ l. same_patterns (omega arith) (omega arith)) (λ h. ⊎_elim (changed h) (λ l. same_patterns (omega arith) (omega arith)) (either i 16))
      (either i 8)
    where
      changed : 8 ≤ i → i < 16 → s.patterns ≡ t.patterns
      changed h l = eq_of_mul-eq-mul_left t.faults p.some_fault _ _ (rw (same_faults h) at (same-product l))

  -- a mark, where byte i is it: by how many remain
  mark-same : (f : ℕ) → f < t.faults → remains_in s f ≡ remains_in t f
  mark-same f l = go (ℕ_discrete (32 + f) i)
    where
      go : Dec (32 + f ≡ i) → remains_in s f ≡ remains_in t f
      go (yes e) =
          one_test_lem t.faults (remains_in s) (remains_in t) f l (λ q _ n. same-mark q (omega arith))
          (rw faults_same at (sym o.number) ∙ same_remaining (omega arith) ∙ p.number)
      go (no n) = same-mark f n

  -- so that the states are one
  state_same : length s.marks ≡ 256 → length t.marks ≡ 256 → s ≡ t
  state_same m n =
      opened_is s o m
      ∙ ap₂ (λ F P. state_of F P (remains_in s)) faults_same patterns_same
      ∙ same_state t.faults t.patterns (remains_in s) (remains_in t) mark-same
      ∙ sym (opened_is t p n)

-- two areas that hold opened states and agree at every place but one are the same
pub one_byte : (a b : List ℕ) → Held a → Held b → (i : ℕ) → ((j : ℕ) → (j ≡ i → ⊥) → get_or a j 0 ≡ get_or b j 0) → a ≡ b
one_byte a b g h i same =
    g.bytes ∙ ap bytes_of (state_same g.state h.state g.opened h.opened i (rw (g.bytes, h.bytes) at same) g.marks h.marks) ∙ sym h.bytes
