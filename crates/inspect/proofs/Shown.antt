-- What the two tallies show, of marks that are all 0 or 1: which faults and which pairs are lost.
-- Assumes nothing.
use mathlib.Core.Path.{◌≡◌, refl, sym, ◌∙◌}
use mathlib.Core.Logic.{◌⊎◌, inl, inr, ⊎_elim}
use mathlib.Core.Bool.{Bool, true, false, not, ◌&&◌, ◌||◌, and-false, or-true}
use mathlib.Core.List.{List}
use Prim.Native.Nat.{ℕ, zero, suc, ◌+◌, ◌*◌, ◌%◌, ◌≤◌, ◌<◌}
use native.Mathlib.Omega.{arith}
use lib.Dec.{eqb, ltb}
use lib.ListN.{get_or}
use borrow.Author.Tests.{ne_eqb, eqb-true, eqb-false, ltb-true, ltb-false, not-true, not-false}
use Rattle.ground.specs.Below.{any_below, count_below}
use Rattle.ground.proofs.Tests.{both, and_both, agree_where, same_test}
use Rattle.ground.proofs.Below.{any_some, some_any}
use Rattle.ground.proofs.Counting.{any_count, count_most, count_either}
use Rattle.tables.specs.Entries.{entries_of}
use Rattle.needs.specs.Needs.{Patterns, whole, fails, tells, detects, apart, lost, lost_pair, kept}
use Rattle.counts.proofs.Detected.{seen-is}
use Rattle.counts.proofs.Sets.{pair_cell}
use Rattle.tallies.specs.Tally.{with_mark, Tallied}
use Rattle.findings.specs.Findings.{pair_lost}
use Rattle.inspect.specs.Owed.{lost_in, pair_in, MarksReady}

-- the patterns of a set that are of a kind: some, and how many
abbrev some : ℕ → Patterns → (ℕ → Bool) → Bool
some P K h = any_below P (λ q. K q && h q)

abbrev held : ℕ → Patterns → (ℕ → Bool) → ℕ
held P K h = count_below P (λ q. K q && h q)

abbrev dropped : List ℕ → Patterns
dropped = with_mark 0

-- ---- a mark that is 0 or 1

-- not both hold
not-both : (m : List ℕ) (q : ℕ) (a b : Bool) → ((kept m q && a) && (dropped m q && b)) ≡ false
not-both m q a b = go (get_or m q 0)
  where
    go : (x : ℕ) → ((eqb x 1 && a) && (eqb x 0 && b)) ≡ false
    go zero = refl
    go (suc zero) = and-false a
    go (suc (suc x)) = rw (ne_eqb (suc (suc x)) 1 (omega arith))

-- so those of one kind that are kept and those of another that are dropped are at most all
together : (P : ℕ) (m : List ℕ) (a b : ℕ → Bool) → held P (kept m) a + held P (dropped m) b ≤ P
together P m a b =
    omega (arith, count_either P (λ q. kept m q && a q) (λ q. dropped m q && b q) (λ q. not-both m q (a q) (b q)), count_most P (λ q. (kept m q && a q) || (dropped m q && b q)))

module _ {P : ℕ} {m : List ℕ} (ready : MarksReady P m) where
  -- one of them does
  kept_or_dropped : (q : ℕ) → q < P → (kept m q ≡ true) ⊎ (dropped m q ≡ true)
  kept_or_dropped q l = go (get_or m q 0) (ltb-false 1 (get_or m q 0) (ready.none_bad q l))
    where
      go : (x : ℕ) → x ≤ 1 → (eqb x 1 ≡ true) ⊎ (eqb x 0 ≡ true)
      go zero k = inr refl
      go (suc zero) k = inl refl
      go (suc (suc x)) k = absurd (omega arith)

  -- ---- some of a kind: a kept one, or a dropped one

  split : (h : ℕ → Bool) → any_below P h ≡ (some P (kept m) h || some P (dropped m) h)
  split h = same_test (any_below P h) (some P (kept m) h || some P (dropped m) h) there back
    where
      there : any_below P h ≡ true → (some P (kept m) h || some P (dropped m) h) ≡ true
      there e =
          let w = some_any P h e in
          ⊎_elim
          (λ k. let q : some P (kept m) h ≡ true = any_some P (λ q. kept m q && h q) w.0 w.1 (and_both k w.2) in rw q)
          (λ d. let q : some P (dropped m) h ≡ true = any_some P (λ q. dropped m q && h q) w.0 w.1 (and_both d w.2) in rw (q, or-true))
          (kept_or_dropped w.0 w.1)

      of-set : (K : Patterns) → some P K h ≡ true → any_below P h ≡ true
      of-set K e = let w = some_any P (λ q. K q && h q) e in any_some P h w.0 w.1 (both (K w.0) (h w.0) w.2).1

      back : (some P (kept m) h || some P (dropped m) h) ≡ true → any_below P h ≡ true
      back e = go (some P (kept m) h) refl e
        where
          go : (b : Bool) → some P (kept m) h ≡ b → (b || some P (dropped m) h) ≡ true → any_below P h ≡ true
          go true q e = of-set (kept m) q
          go false q e = of-set (dropped m) e

  -- some of a kind and no kept one: some dropped one and no kept one
  lost_split : (h : ℕ → Bool) → (any_below P h && not (some P (kept m) h)) ≡ (some P (dropped m) h && not (some P (kept m) h))
  lost_split h = rw (split h) (go (some P (kept m) h) (some P (dropped m) h))
    where
      go : (a b : Bool) → ((a || b) && not a) ≡ (b && not a)
      go true b = sym (and-false b)
      go false b = refl

-- ---- counts that go round at 256

-- k kept and d dropped of at most 256, and not all of them dropped
cells_say : (k d : ℕ) → k + d ≤ 256 → d < 256 → (eqb (k % 256) 0 && not (eqb (d % 256) 0)) ≡ (not (eqb d 0) && not (not (eqb k 0)))
cells_say k d most some-kept =
    same_test (eqb (k % 256) 0 && not (eqb (d % 256) 0)) (not (eqb d 0) && not (not (eqb k 0)))
    (λ e.
    let w = both (eqb (k % 256) 0) (not (eqb (d % 256) 0)) e in
    let none = eqb-true (k % 256) 0 w.0 in
    let told = eqb-false (d % 256) 0 (not-true (eqb (d % 256) 0) w.1) in
    let q : k ≡ 0 = omega arith in
    rw (ne_eqb d 0 (λ z. told (omega arith)), q))
    (λ e.
    let w = both (not (eqb d 0)) (not (not (eqb k 0))) e in
    let told = eqb-false d 0 (not-true (eqb d 0) w.0) in
    let q : k ≡ 0 = eqb-true k 0 (not-false (eqb k 0) (not-true (not (eqb k 0)) w.1)) in
    rw (q, ne_eqb (d % 256) 0 (λ z. told (omega arith))))

module _ {t : List ℕ} {F P : ℕ} {m kc ks dc ds : List ℕ}
    (few : F ≤ 256)
    (many : P ≤ 256)
    (ready : MarksReady P m)
    (kept_tally : Tallied t F P (kept m) kc ks)
    (dropped_tally : Tallied t F P (dropped m) dc ds)
  where
    -- the kinds: those that fail f, those that tell f and g apart
    abbrev failing : ℕ → ℕ → Bool
    failing f q = fails (entries_of F t q f)

    abbrev telling : ℕ → ℕ → ℕ → Bool
    telling f g q = tells (entries_of F t q f) (entries_of F t q g)

    pub fault-shown : (f : ℕ) → f < F → lost_in ks ds f ≡ lost (entries_of F t) P (kept m) f
    unfolding lost_in lost
    fault-shown f l =
        rw (seen-is kept_tally.seen f l, seen-is dropped_tally.seen f l)
        (sym (lost_split ready (failing f)))

    -- where no fault is lost, the kept patterns detect what all do
    module _ (none_lost : (f : ℕ) → f < F → lost (entries_of F t) P (kept m) f ≡ false) where
      kept-detect : (f : ℕ) → f < F → eqb (get_or ks f 0) 1 ≡ detects (entries_of F t) P whole f
      unfolding lost
      kept-detect f l =
          seen-is kept_tally.seen f l
          ∙ sym (split ready (failing f) ∙ go (detects (entries_of F t) P (kept m) f) (detects (entries_of F t) P (dropped m) f) (sym (lost_split ready (failing f)) ∙ none_lost f l))
        where
          go : (a b : Bool) → (b && not a) ≡ false → (a || b) ≡ a
          go true b e = refl
          go false true e = e
          go false false e = refl

      -- a kept pattern fails f: not all patterns are dropped, and a count of dropped ones stays below 256
      not-all-dropped : (f : ℕ) → detects (entries_of F t) P (kept m) f ≡ true → (h : ℕ → Bool) → held P (dropped m) h < 256
      not-all-dropped f d h =
          let some-kept = eqb-false (held P (kept m) (failing f)) 0 (not-true _ (sym (any_count P (λ q. kept m q && failing f q)) ∙ d)) in
          omega (arith, together P m (failing f) h, many)

      -- of two such faults
      cells_shown : (f g : ℕ) → f < g → g < F → detects (entries_of F t) P whole f ≡ true
          → (eqb (get_or kc (256 * g + f) 0) 0 && not (eqb (get_or dc (256 * g + f) 0) 0)) ≡ (apart (entries_of F t) P whole f g && not (apart (entries_of F t) P (kept m) f g))
      cells_shown f g l k d =
          rw (pair_cell kept_tally.counted few f g l k, pair_cell dropped_tally.counted few f g l k)
          (cells_say (held P (kept m) (telling f g)) (held P (dropped m) (telling f g)) (omega (arith, together P m (telling f g) (telling f g), many))
          (not-all-dropped f (sym (seen-is kept_tally.seen f (omega arith)) ∙ kept-detect f (omega arith) ∙ d) (telling f g))
          ∙ sym (lost_split ready (telling f g) ∙ counted))
        where
          counted : (some P (dropped m) (telling f g) && not (some P (kept m) (telling f g)))
              ≡ (not (eqb (held P (dropped m) (telling f g)) 0) && not (not (eqb (held P (kept m) (telling f g)) 0)))
          counted = rw (any_count P (λ q. kept m q && telling f g q), any_count P (λ q. dropped m q && telling f g q))

      pub pair-shown : (f g : ℕ) → g < F → pair_in kc dc ks f g ≡ pair_lost (entries_of F t) P m f g
      unfolding pair_in pair_lost lost_pair
      pair-shown f g k =
          agree_where (ltb f g) (λ o.
          let l = ltb-true f g o in
          rw (kept-detect f (omega arith), kept-detect g k)
          (agree_where (detects (entries_of F t) P whole f) (λ d. agree_where (detects (entries_of F t) P whole g) (λ _. cells_shown f g l k d))))
