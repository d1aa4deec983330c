-- The compacted marks: taken from the last to the first and no others so; sound; and with no detected fault all dropped.
-- Assumes nothing.
use mathlib.Core.Path.{◌≡◌, refl, sym, ap, ◌∙◌}
use mathlib.Core.Logic.{◌↔◌, ⊎_elim}
use mathlib.Core.Bool.{Bool, true, false, not, ◌&&◌, ◌||◌, true≢false}
use mathlib.Core.List.{List}
use Prim.Native.Nat.{ℕ, zero, suc, ◌+◌, ◌≤◌, ◌<◌}
use native.Mathlib.Decide.{dec_lt, ℕ_discrete}
use native.Mathlib.Omega.{arith}
use lib.Dec.{eqb, ltb}
use lib.ListN.{length, get_or, set, replicate, length-replicate, get_or-replicate}
use lib.Seq.{ext_get_or}
use borrow.Author.Tests.{lt-ltb, le-ltb}
use Rattle.ground.specs.Choose.{one}
use Rattle.ground.proofs.Tests.{either}
use Rattle.tables.specs.Entries.{Entries}
use Rattle.needs.specs.Needs.{Patterns, whole, lacks, kept, compacted}
use Rattle.needs.specs.Words.{Detected, Meets, others, LastToFirst, Sound}
use Rattle.needs.proofs.Words.{meets-is, is-meets}
use Rattle.needs.proofs.Sets.{WithinSet, meets-within, lacks-same, whole_meets, nothing_detected}
use Rattle.needs.proofs.Turns.{not-kept, kept_other, turns-length, turns_meet, turns-mark}

-- ---- a mark by the words and by the test

module _ (E : Entries) (F P : ℕ) (K : Patterns) where
  mark_0 : Meets E F P K → one (lacks E F P K) ≡ 0
  mark_0 h = go (lacks E F P K) (is-meets E F P K h)
    where
      go : (b : Bool) → not b ≡ true → one b ≡ 0
      go true e = absurd (true≢false (sym e))
      go false e = refl

  mark_1 : (Meets E F P K → ⊥) → one (lacks E F P K) ≡ 1
  mark_1 n = go (lacks E F P K) refl
    where
      go : (b : Bool) → lacks E F P K ≡ b → one b ≡ 1
      go true e = refl
      go false e = absurd (n (meets-is E F P K (ap not e)))

module _ (E : Entries) (F P : ℕ) where
  -- ---- the marks are taken from the last to the first

  pub all-kept : (p : ℕ) → p < P → kept (replicate P 1) p ≡ true
  all-kept p l = ap (λ (x : ℕ). eqb x 1) (get_or-replicate P p 1 0 l)

  pub compacted-length : length (compacted E F P) ≡ P
  unfolding compacted
  compacted-length = turns-length E F P P (replicate P 1) ∙ length-replicate P 1

  compacted-mark : (p : ℕ) → p < P → get_or (compacted E F P) p 0 ≡ one (lacks E F P (others (compacted E F P) p))
  unfolding compacted
  compacted-mark p l = turns-mark E F P P (replicate P 1) (λ q h. get_or-replicate P q 1 0 h) p l

  pub compacted_so : LastToFirst E F P (compacted E F P)
  compacted_so = record {
    size = compacted-length;
    dropped = λ p l h. compacted-mark p l ∙ mark_0 E F P (others (compacted E F P) p) h;
    stays = λ p l n. compacted-mark p l ∙ mark_1 E F P (others (compacted E F P) p) n;
  }

  -- ---- and no others are

  mark_by_lem : {m : List ℕ} → LastToFirst E F P m → (p : ℕ) → p < P → get_or m p 0 ≡ one (lacks E F P (others m p))
  mark_by_lem {m} so p l = go (lacks E F P (others m p)) refl
    where
      go : (b : Bool) → lacks E F P (others m p) ≡ b → get_or m p 0 ≡ one b
      go true e = so.stays p l (λ h. true≢false (sym (is-meets E F P (others m p) h) ∙ ap not e))
      go false e = so.dropped p l (meets-is E F P (others m p) (ap not e))

  -- two such lists agree at the last k patterns
  agree : {m r : List ℕ} → LastToFirst E F P m → LastToFirst E F P r → (k p : ℕ) → P ≤ p + k → p < P → get_or m p 0 ≡ get_or r p 0
  agree a b zero p h l = absurd (omega arith)
  agree {m} {r} a b (suc k) p h l =
      mark_by_lem a p l
      ∙ ap one (lacks-same E F P (others m p) (others r p) (λ q g.
      ⊎_elim (λ i. ap (λ (x : ℕ). ltb q p || (ltb p q && eqb x 1)) (agree a b k q (omega arith) g)) (λ i. rw (le-ltb p q i)) (either p q)))
      ∙ sym (mark_by_lem b p l)

  pub last_to_first : (m : List ℕ) → LastToFirst E F P m ↔ (m ≡ compacted E F P)
  last_to_first m = (
    λ so. ext_get_or 0 m (compacted E F P) (so.size ∙ sym compacted-length) (λ p l. agree so compacted_so P p (omega arith) (omega (arith, so.size))),
    λ e. rw e compacted_so,
  )

  -- ---- the set that is left

  -- no kept pattern can be spared: what is left without it was still in the set at its turn
  spared_within : (m : List ℕ) (p : ℕ) → WithinSet P (kept (set m p 0)) (others m p)
  spared_within m p q l e = go (dec_lt q p) (ℕ_discrete q p)
    where
      go : Dec (q < p) → Dec (q ≡ p) → others m p q ≡ true
      go (yes h) y = rw (lt-ltb q p h)
      go (no n) (yes i) = absurd (true≢false (sym e ∙ ap (kept (set m p 0)) i ∙ not-kept m p))
      go (no n) (no d) = rw (le-ltb q p (omega arith), lt-ltb p q (omega arith)) (sym (kept_other m p q d) ∙ e)

  pub start-meets : Meets E F P (kept (replicate P 1))
  start-meets = meets-within E F P (λ p l _. all-kept p l) (whole_meets E F P)

  pub compacted_sound : Sound E F P (compacted E F P)
  unfolding compacted
  compacted_sound = record {
    enough = turns_meet E F P P (replicate P 1) start-meets;
    none_spare = λ p l k h.
        let dropped = compacted_so.dropped p l (meets-within E F P (spared_within (compacted E F P) p) h) in
        true≢false (sym k ∙ ap (λ (x : ℕ). eqb x 1) dropped);
  }

  -- with no detected fault, all are dropped
  pub none_detected : ((f : ℕ) → f < F → Detected E P whole f → ⊥) → compacted E F P ≡ replicate P 0
  none_detected none =
      ext_get_or 0 (compacted E F P) (replicate P 0) (compacted-length ∙ sym (length-replicate P 0))
      (λ p h.
      let l : p < P = omega (arith, compacted-length) in
      compacted_so.dropped p l (nothing_detected E F P none (others (compacted E F P) p)) ∙ sym (get_or-replicate P p 0 0 l))
