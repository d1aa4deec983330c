-- Which faults are detected: fault by fault, and pattern by pattern.
-- Assumes nothing.
use mathlib.Core.Path.{◌≡◌, refl, sym, ap, ◌∙◌}
use mathlib.Core.Bool.{true, false, ◌&&◌, or-false}
use mathlib.Core.List.{List}
use Prim.Native.Nat.{ℕ, ◌+◌, ◌*◌, ◌≤◌, ◌<◌}
use native.Mathlib.Decide.{ℕ_discrete}
use native.Mathlib.Numerals.{add-one}
use native.Mathlib.Omega.{arith}
use lib.Bits.{bit_or}
use lib.Dec.{eqb}
use lib.ListN.{length, get_or, set}
use lib.Seq.{get_or-set_same, get_or-set_other}
use Rattle.ground.specs.Choose.{one}
use Rattle.ground.specs.Below.{any_below}
use Rattle.ground.proofs.Tests.{one_or, one-is, one_most}
use Rattle.tables.specs.Entries.{entries_of}
use Rattle.needs.specs.Needs.{Patterns, whole, fails, detects}
use Rattle.needs.specs.Words.{Meets}
use Rattle.needs.proofs.Sets.{same_detected}
use Rattle.counts.specs.Counted.{Seen}
use Rattle.counts.specs.Owed.{SeeDone, Notes}

-- ---- what a note says

pub seen-is : {t : List ℕ} {F P : ℕ} {K : Patterns} {s : List ℕ} → Seen t F P K s → (f : ℕ) → f < F → eqb (get_or s f 0) 1 ≡ detects (entries_of F t) P K f
seen-is {t} {F} {P} {K} so f l = ap (λ (n : ℕ). eqb n 1) (so.fault f l) ∙ one-is (detects (entries_of F t) P K f)

-- a set that meets every need detects what all patterns do
pub seen-whole : {t : List ℕ} {F P : ℕ} {K : Patterns} {s : List ℕ} → Seen t F P K s → Meets (entries_of F t) F P K → Seen t F P whole s
seen-whole {t} {F} {P} {K} so enough = record { fault = λ f l. so.fault f l ∙ ap one (sym (same_detected (entries_of F t) F P K enough f l)) }

pub seen_notes : {t : List ℕ} {F P : ℕ} {K : Patterns} {s : List ℕ} → Seen t F P K s → F ≤ length s → Notes s F
seen_notes {t} {F} {P} {K} so l = record { room = l; bit = λ f h. omega (arith, so.fault f h, one_most (detects (entries_of F t) P K f)) }

-- ---- the first i faults of a pattern are seen

pub record SawTo (t : List ℕ) (from : ℕ) (old : List ℕ) (i : ℕ) (new : List ℕ) : Type 0 where
  pub done : (f : ℕ) → f < i → get_or new f 0 ≡ bit_or (get_or old f 0) (one (eqb (get_or t (from + f) 0) 1))
  pub rest : (f : ℕ) → i ≤ f → get_or new f 0 ≡ get_or old f 0

pub saw_none : {t : List ℕ} {from : ℕ} {old : List ℕ} → SawTo t from old 0 old
saw_none = record { done = λ f l. absurd (omega arith); rest = λ f l. refl }

module _ {t : List ℕ} {from : ℕ} {old : List ℕ} {i : ℕ} {new : List ℕ} (so : SawTo t from old i new) where
  pub saw_one : {x : ℕ} → x ≡ one (eqb (get_or t (from + i) 0) 1) → i < length new → SawTo t from old (i + 1) (set new i (bit_or (get_or new i 0) x))
  saw_one {x} is room = record {
    done = λ f l. go f l (ℕ_discrete f i);
    rest = λ f l. get_or-set_other new i f _ 0 (omega arith) ∙ so.rest f (omega arith);
  }
    where
      go : (f : ℕ) → f < i + 1 → Dec (f ≡ i) → get_or (set new i (bit_or (get_or new i 0) x)) f 0 ≡ bit_or (get_or old f 0) (one (eqb (get_or t (from + f) 0) 1))
      go f l (yes q) = rw (q, get_or-set_same new i (bit_or (get_or new i 0) x) 0 room, is, so.rest i (omega arith))
      go f l (no d) = get_or-set_other new i f _ 0 d ∙ so.done f (omega arith)

  pub saw_all : (n : ℕ) → n ≤ i → SeeDone t from n old new
  saw_all n h = record { fault = λ f l. so.done f (omega arith) }

-- ---- the faults of the first p patterns, those of a set, are seen

pub record SeenTo (t : List ℕ) (F : ℕ) (K : Patterns) (p : ℕ) (s : List ℕ) : Type 0 where
  pub fault : (f : ℕ) → f < F → get_or s f 0 ≡ one (any_below p (λ q. K q && fails (entries_of F t q f)))

module _ {t : List ℕ} {F : ℕ} {K : Patterns} where
  pub seen_none : {s : List ℕ} → ((k : ℕ) → get_or s k 0 ≡ 0) → SeenTo t F K 0 s
  seen_none none = record { fault = λ f l. none f }

  module _ {p : ℕ} {s : List ℕ} (so : SeenTo t F K p s) where
    -- the next pattern is of the set, or not
    pub seen_one : {r : List ℕ} → K p ≡ true → SeeDone t (p * F) F s r → SeenTo t F K (p + 1) r
    seen_one of-it m = record {
      fault = λ f l.
          m.fault f l
          ∙ rw (add-one p, so.fault f l, of-it) (one_or (any_below p (λ q. K q && fails (entries_of F t q f))) (fails (entries_of F t p f)));
    }

    pub seen_other : K p ≡ false → SeenTo t F K (p + 1) s
    seen_other not-of-it = record { fault = λ f l. rw (add-one p, not-of-it, or-false) (so.fault f l) }

    pub seen_all : {P : ℕ} → p ≡ P → Seen t F P K s
    seen_all e = record { fault = λ f l. rw (← e) (so.fault f l) }
