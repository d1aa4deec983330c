-- Marks are found sound exactly if each is 0 or 1, every need is met and no kept pattern can be spared alone; the compacted marks are.
-- Assumes nothing.
use mathlib.Core.Path.{◌≡◌, refl, sym, ◌∙◌}
use mathlib.Core.Logic.{◌⊎◌, inl, inr, ⊎_elim, ◌↔◌}
use mathlib.Core.Bool.{Bool, true, false, true≢false}
use mathlib.Core.List.{List}
use Prim.Native.Nat.{ℕ}
use native.Mathlib.Decide.{ℕ_discrete}
use lib.ListN.{get_or}
use Rattle.tables.specs.Entries.{Entries}
use Rattle.needs.specs.Needs.{meets, compacted}
use Rattle.needs.specs.Words as needs
use Rattle.needs.specs.Words.{others, LastToFirst}
use Rattle.needs.proofs.Words.{meets-is, is-meets}
use Rattle.needs.proofs.Sound.{compacted_so, compacted_sound}
use Rattle.findings.specs.declared.Finding.TheVariants.{Sound}
use Rattle.findings.specs.Findings.{finding_of}
use Rattle.findings.specs.Words.{BadAt, Nowhere, Finds, ZeroOrOne}
use Rattle.findings.proofs.Finds.{finding_words}

-- ---- each mark

not_bad : (P : ℕ) (m : List ℕ) → Nowhere P (BadAt m) ↔ ZeroOrOne P m
not_bad P m = (
  λ none k l. go k (none k l) (ℕ_discrete (get_or m k 0) 0) (ℕ_discrete (get_or m k 0) 1),
  λ marks k l bad. ⊎_elim bad.0 bad.1 (marks k l),
)
  where
    go : (k : ℕ) → (BadAt m k → ⊥) → Dec (get_or m k 0 ≡ 0) → Dec (get_or m k 0 ≡ 1) → (get_or m k 0 ≡ 0) ⊎ (get_or m k 0 ≡ 1)
    go k n (yes e) y = inl e
    go k n (no d) (yes e) = inr e
    go k n (no d) (no c) = absurd (n (d, c))

module _ (E : Entries) (F P : ℕ) where
  -- ---- sound marks

  pub sound_words : (m : List ℕ) → Finds E F P m Sound ↔ (ZeroOrOne P m × needs.Sound E F P m)
  unfolding Finds
  sound_words m = (
    λ h. ((not_bad P m).0 h.0, record { enough = h.1; none_spare = λ p l k s. h.2 p l (k, s) }),
    λ h. ((not_bad P m).1 h.0, h.1.enough, λ p l w. h.1.none_spare p l w.0 w.1),
  )

  -- ---- the compacted ones

  taken_marks : {m : List ℕ} → LastToFirst E F P m → ZeroOrOne P m
  taken_marks {m} so p l = go (meets E F P (others m p)) refl
    where
      go : (b : Bool) → meets E F P (others m p) ≡ b → (get_or m p 0 ≡ 0) ⊎ (get_or m p 0 ≡ 1)
      go true e = inl (so.dropped p l (meets-is E F P (others m p) e))
      go false e = inr (so.stays p l (λ h. true≢false (sym (is-meets E F P (others m p) h) ∙ e)))

  pub compacted-found_sound : finding_of E F P (compacted E F P) ≡ Sound
  compacted-found_sound =
      (finding_words E F P (compacted E F P) Sound).1 ((sound_words (compacted E F P)).1 (taken_marks (compacted_so E F P), compacted_sound E F P))
