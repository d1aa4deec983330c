-- Where every need is met, the counts of the kept patterns say which of them can be spared.
-- Assumes nothing.
use mathlib.Core.Path.{◌≡◌, ap, ◌∙◌}
use mathlib.Core.Bool.{Bool, false, not}
use mathlib.Core.List.{List}
use Prim.Native.Nat.{ℕ, ◌*◌, ◌<◌}
use lib.ListN.{get_or}
use borrow.Author.Tests.{eq-eqb, ne_eqb}
use Rattle.tables.specs.Entries.{entries_of}
use Rattle.counts.specs.Owed.{needed_of}
use Rattle.counts.proofs.Detected.{seen-whole}
use Rattle.counts.proofs.Decided.{decided}
use Rattle.findings.specs.Findings.{spare}
use Rattle.inspect.specs.Owed.{SpareReady}

module _ {t : List ℕ} {F P : ℕ} {m c s : List ℕ} (so : SpareReady t F P m c s) where
  -- of a dropped pattern, and of a kept one
  pub dropped-spare : (p : ℕ) → (get_or m p 0 ≡ 1 → ⊥) → false ≡ spare (entries_of F t) F P m p
  unfolding spare
  dropped-spare p n = rw (ne_eqb (get_or m p 0) 1 n)

  pub kept-spare : (p : ℕ) → p < P → get_or m p 0 ≡ 1 → {r : Bool} → r ≡ needed_of c s t (p * F) F → not r ≡ spare (entries_of F t) F P m p
  unfolding spare
  kept-spare p l e q =
      let in-it = eq-eqb (get_or m p 0) 1 e in
      rw in-it (ap not (q ∙ decided m so.room.few_faults so.room.few_patterns so.tallied.counted (seen-whole so.tallied.seen so.enough) so.enough p l in-it))
