-- A pattern is needed by the counts exactly if those still in the set without it lack something.
-- Assumes nothing.
use mathlib.Core.Path.{◌≡◌, refl, sym, ap, ◌∙◌}
use mathlib.Core.Bool.{Bool, true, false, not, ◌&&◌, and-false}
use mathlib.Core.List.{List}
use Prim.Native.Nat.{ℕ, zero, suc, ◌+◌, ◌-◌, ◌*◌, ◌%◌, ◌≤◌, ◌<◌}
use native.Mathlib.Nat.{add-zero}
use native.Mathlib.Omega.{arith}
use lib.Dec.{eqb, leb}
use lib.ListN.{get_or, set}
use borrow.Author.Tests.{eq-eqb, ne_eqb, eqb-true}
use Rattle.ground.specs.Choose.{one}
use Rattle.ground.specs.Below.{any_below, count_below}
use Rattle.ground.proofs.Tests.{agree_where, same_test}
use Rattle.ground.proofs.Below.{any_same, none_any}
use Rattle.ground.proofs.Counting.{any_count, count_most}
use Rattle.tables.specs.Entries.{Entries, entries_of}
use Rattle.needs.specs.Needs.{Patterns, whole, fails, tells, detects, apart, lost, lost_pair, lacks, kept}
use Rattle.needs.specs.Words.{Meets}
use Rattle.needs.proofs.Entries.{tells_other}
use Rattle.needs.proofs.Sets.{same_detected, same-apart}
use Rattle.needs.proofs.Turns.{not-kept, kept_other}
use Rattle.counts.specs.Counted.{Counted, Seen}
use Rattle.counts.specs.Owed.{sole_of, sole_in, sole_at, needed_of}
use Rattle.counts.proofs.Detected.{seen-is}
use Rattle.counts.proofs.Sets.{fault_cell, pair_cell, count_step}

-- of at most 256 a count of 1 is told from every other
round-one : (n : ℕ) → n ≤ 256 → eqb (n % 256) 1 ≡ eqb n 1
round-one n l =
    same_test (eqb (n % 256) 1) (eqb n 1) (λ e. eq-eqb n 1 (omega (arith, eqb-true (n % 256) 1 e)))
    (λ e. eq-eqb (n % 256) 1 (omega (arith, eqb-true n 1 e)))

-- k others of a kind, and x whether the pattern is of it: it is the only one exactly if there are some and no others
only : (k : ℕ) (x : Bool) → (eqb (k + one x) 1 && x) ≡ (not (eqb (k + one x) 0) && not (not (eqb k 0)))
only zero true = refl
only (suc k) true = simp (ne_eqb (suc k + 1) 1 (omega arith), ne_eqb (suc k + 1) 0 (omega arith), ne_eqb (suc k) 0 (omega arith))
only k false = rw (add-zero k, and-false) (go (eqb k 0))
  where
    go : (b : Bool) → false ≡ (not b && not (not b))
    go true = refl
    go false = refl

-- the order of tests
and_swap : (a d w : Bool) → (a && (d && w)) ≡ (d && (a && w))
and_swap true d w = refl
and_swap false d w = simp and-false

known_last : (e a d w : Bool) → (e && (a && (d && w))) ≡ (d && (a && (e && w)))
known_last true a d w = and_swap a d w
known_last false a d w = simp and-false

undetected : (E : Entries) (P : ℕ) (K : Patterns) (f g : ℕ) → detects E P whole g ≡ false → lost_pair E P K f g ≡ false
unfolding lost_pair
undetected E P K f g e = rw (e, and-false)

-- the patterns of a set that are of a kind: some, and how many
abbrev some : ℕ → Patterns → (ℕ → Bool) → Bool
some P K h = any_below P (λ q. K q && h q)

abbrev held : ℕ → Patterns → (ℕ → Bool) → ℕ
held P K h = count_below P (λ q. K q && h q)

-- the kinds: those that fail f, those that tell f and g apart
abbrev failing : Entries → ℕ → ℕ → Bool
failing E f q = fails (E q f)

abbrev telling : Entries → ℕ → ℕ → ℕ → Bool
telling E f g q = tells (E q f) (E q g)

abbrev without : List ℕ → ℕ → Patterns
without m p = kept (set m p 0)

-- marks m whose set meets every need and has the pattern p, the counts c of the set, and the detected faults s
module _
    {t : List ℕ}
    {F P : ℕ}
    (m : List ℕ)
    {c s : List ℕ}
    (few : F ≤ 256)
    (many : P ≤ 256)
    (counted : Counted t F P (kept m) c)
    (seen : Seen t F P whole s)
    (enough : Meets (entries_of F t) F P (kept m))
    (p : ℕ)
    (l : p < P)
    (in-it : kept m p ≡ true)
  where
    -- p is the only one of a kind exactly if some are in the set and none without p
    sole-held : {x : ℕ} (h : ℕ → Bool) → x ≡ held P (kept m) h % 256 → (eqb x 1 && h p) ≡ (some P (kept m) h && not (some P (without m p) h))
    sole-held h e =
        rw (
          e,
          round-one (held P (kept m) h) (omega (arith, count_most P (λ q. kept m q && h q))),
          any_count P (λ q. kept m q && h q),
          any_count P (λ q. without m p q && h q),
          count_step P p l (without m p) (kept m) (not-kept m p) in-it (λ q _ n. kept_other m p q n) h,
        )
        (only (held P (without m p) h) (h p))

    fault-lost : (f : ℕ) → f < F → sole_in c s (256 * F) t (p * F) 1 f ≡ lost (entries_of F t) P (without m p) f
    unfolding sole_of lost
    fault-lost f k =
        rw (seen-is seen f k) (and_swap (eqb (get_or c (256 * F + f) 0) 1) (detects (entries_of F t) P whole f) (fails (entries_of F t p f)))
        ∙ agree_where (detects (entries_of F t) P whole f) (λ d.
        sole-held (failing (entries_of F t) f) (fault_cell counted few f k)
        ∙ ap (λ (b : Bool). b && not (detects (entries_of F t) P (without m p) f)) (sym (same_detected (entries_of F t) F P (kept m) enough f k) ∙ d))

    -- of a detected fault g, where its entry is known
    pair-lost : (f g : ℕ) → f < g → g < F → detects (entries_of F t) P whole g ≡ true
        → (leb (entries_of F t p g) 1 && sole_in c s (256 * g) t (p * F) (1 - entries_of F t p g) f) ≡ lost_pair (entries_of F t) P (without m p) f g
    unfolding sole_of lost_pair
    pair-lost f g k h e =
        known_last (leb (entries_of F t p g) 1) (eqb (get_or c (256 * g + f) 0) 1) (eqb (get_or s f 0) 1) (eqb (entries_of F t p f) (1 - entries_of F t p g))
        ∙ rw (seen-is seen f (omega arith), ← tells_other (entries_of F t p f) (entries_of F t p g), e)
        (agree_where (detects (entries_of F t) P whole f) (λ d.
        sole-held (telling (entries_of F t) f g) (pair_cell counted few f g k h)
        ∙ ap (λ (b : Bool). b && not (apart (entries_of F t) P (without m p) f g)) (sym (same-apart (entries_of F t) F P (kept m) enough f g (omega arith) h d e))))

    pairs-lost : (g : ℕ) → g < F → sole_at c s t (p * F) g ≡ any_below g (λ f. lost_pair (entries_of F t) P (without m p) f g)
    unfolding sole_at
    pairs-lost g h = rw (seen-is seen g h) (go (detects (entries_of F t) P whole g) refl)
      where
        each : (b : Bool) (r : ℕ → Bool) → (b && any_below g r) ≡ any_below g (λ f. b && r f)
        each true r = refl
        each false r = sym (none_any g (λ f. false) (λ f k. refl))

        go : (b : Bool) → detects (entries_of F t) P whole g ≡ b
            → (b && (leb (entries_of F t p g) 1 && any_below g (sole_in c s (256 * g) t (p * F) (1 - entries_of F t p g)))) ≡ any_below g (λ f. lost_pair (entries_of F t) P (without m p) f g)
        go false e = sym (none_any g (λ f. lost_pair (entries_of F t) P (without m p) f g) (λ f k. undetected (entries_of F t) P (without m p) f g e))
        go true e =
            each (leb (entries_of F t p g) 1) (sole_in c s (256 * g) t (p * F) (1 - entries_of F t p g))
            ∙ any_same g (λ f. leb (entries_of F t p g) 1 && sole_in c s (256 * g) t (p * F) (1 - entries_of F t p g) f) (λ f. lost_pair (entries_of F t) P (without m p) f g)
            (λ f k. pair-lost f g k h e)

    pub decided : needed_of c s t (p * F) F ≡ lacks (entries_of F t) F P (kept (set m p 0))
    unfolding needed_of lacks
    decided =
        rw (
          any_same F (sole_in c s (256 * F) t (p * F) 1) (lost (entries_of F t) P (without m p)) fault-lost,
          any_same F (sole_at c s t (p * F)) (λ g. any_below g (λ f. lost_pair (entries_of F t) P (without m p) f g)) pairs-lost,
        )
