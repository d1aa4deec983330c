-- What is said of the setting line by line leaves one value for each free line.
-- Assumes nothing.
use mathlib.Core.Path.{◌≡◌, refl, sym, ap, ◌∙◌}
use mathlib.Core.Bool.{Bool, true, false, false≢true}
use mathlib.Core.List.{List}
use Prim.Native.Nat.{ℕ, zero, suc, ◌+◌, ◌≤◌, ◌<◌}
use native.Mathlib.Decide.{ℕ_discrete}
use native.Mathlib.Omega.{arith}
use lib.ListN.{get_or}
use Rattle.circuit.specs.Record.{kind_at, pin_at}
use Rattle.circuit.specs.Formed.{WellFormed}
use Rattle.reads.specs.Reads.{reads_of}
use Rattle.reads.specs.Words.{PinReads}
use Rattle.reads.proofs.Pins.{reads_some}
use Rattle.heads.specs.Heads.{bound, head}
use Rattle.heads.proofs.Pins.{pin_lower}
use Rattle.heads.proofs.Forest.{bound_sources}
use Rattle.trees.specs.Need.{need_of}
use Rattle.trees.specs.Setting.{Set}

module _ {c : List ℕ} {m n : ℕ} (well : WellFormed c m n) {s w w₂ : List ℕ} (p : Set c n s w) (q : Set c n s w₂) where
  -- a free line, where the free lines above it have one value
  one_line : (k : ℕ) → k < n → bound c n k ≡ false → ((j : ℕ) → k < j → j < n → bound c n j ≡ false → get_or w j 0 ≡ get_or w₂ j 0) → get_or w k 0 ≡ get_or w₂ k 0
  one_line k l free above = go (head c n k) refl (ℕ_discrete (reads_of c n k) 0)
    where
      reader : head c n k ≡ false → (j : ℕ) × (i : ℕ) × PinReads c n k j i → get_or w k 0 ≡ get_or w₂ k 0
      reader none (j, i, r) = at (bound c n j) refl
        where
          at : (t : Bool) → bound c n j ≡ t → get_or w k 0 ≡ get_or w₂ k 0
          at true e =
              let is = r.is in
              let lies : head c n (pin_at c j i) ≡ true = bound_sources well j i r.line r.some r.has e (rw is free) in
              absurd (false≢true (sym none ∙ sym (ap (head c n) is) ∙ lies))
          at false e =
              let higher : k < j = omega (arith, r.is, pin_lower well j i r.line r.some r.has) in
              sym (ap (λ (x : ℕ). get_or w x 0) r.is)
              ∙ p.sources j i r.line e r.some r.has
              ∙ ap (λ (v : ℕ). need_of (kind_at c j) v i) (above j higher r.line e)
              ∙ sym (q.sources j i r.line e r.some r.has)
              ∙ ap (λ (x : ℕ). get_or w₂ x 0) r.is

      go : (t : Bool) → head c n k ≡ t → Dec (reads_of c n k ≡ 0) → get_or w k 0 ≡ get_or w₂ k 0
      go true e d = p.heads k l e ∙ sym (q.heads k l e)
      go false e (yes z) = p.unread k l e z ∙ sym (q.unread k l e z)
      go false e (no z) = reader e (reads_some c n k (omega arith))

  -- the highest lines first
  from_above : (d k : ℕ) → k < n → n ≤ k + d → bound c n k ≡ false → get_or w k 0 ≡ get_or w₂ k 0
  from_above zero k l h free = absurd (omega arith)
  from_above (suc d) k l h free = one_line k l free (λ j a b f. from_above d j b (omega arith) f)

  pub one_setting : (k : ℕ) → k < n → bound c n k ≡ false → get_or w k 0 ≡ get_or w₂ k 0
  one_setting k l free = from_above n k l (omega arith) free
