-- There are no more head lines than inputs: each tree has an input of its own.
-- Assumes nothing.
use mathlib.Core.Path.{◌≡◌, refl, sym, ap, ◌∙◌}
use mathlib.Core.Bool.{Bool, true, false, not, ◌&&◌, ◌||◌, true≢false, false≢true}
use mathlib.Core.List.{List}
use Prim.Native.Nat.{ℕ, zero, suc, ◌+◌, ◌≤◌, ◌<◌}
use native.Mathlib.Decide.{ℕ_discrete}
use native.Mathlib.Nat.{not-suc-le-zero, le_refl}
use native.Mathlib.Omega.{arith}
use lib.Dec.{eqb}
use borrow.Author.Tests.{eqb-false}
use Rattle.ground.specs.Choose.{one}
use Rattle.ground.specs.Below.{any_below, count_below}
use Rattle.ground.proofs.Tests.{one_most}
use Rattle.ground.proofs.Below.{none_any}
use Rattle.gates.specs.Gate.{pins_of}
use Rattle.gates.proofs.Laws.{gate-pin}
use Rattle.circuit.specs.Record.{kind_at, pin_at, is_input, inputs_before}
use Rattle.circuit.specs.Formed.{WellFormed}
use Rattle.reads.specs.Words.{PinReads}
use Rattle.heads.specs.Heads.{some_pin, bound, head, heads_of}
use Rattle.heads.proofs.Pins.{reads_it, it_reads, pin_lower, reads}
use Rattle.heads.proofs.Forest.{free_sources, only_reader, source_no-head, head-free}

one-le : (a b : Bool) → (a ≡ true → b ≡ true) → one a ≤ one b
one-le true b h = rw (h refl) (le_refl 1)
one-le false b h = omega arith

-- a test that passes at fewer places counts no more
count_le : (n : ℕ) (t u : ℕ → Bool) → ((j : ℕ) → j < n → t j ≡ true → u j ≡ true) → count_below n t ≤ count_below n u
unfolding count_below
count_le zero t u h = omega arith
count_le (suc n) t u h = omega (arith, count_le n t u (λ j l. h j (omega arith)), one-le (t n) (u n) (h n (le_refl _)))

-- and less, where it fails at a place at which the other passes
count_less : (n : ℕ) (t u : ℕ → Bool) → ((j : ℕ) → j < n → t j ≡ true → u j ≡ true) → (i : ℕ) → i < n → t i ≡ false → u i ≡ true → count_below n t < count_below n u
unfolding count_below
count_less zero t u h i l e f = absurd (not-suc-le-zero l)
count_less (suc n) t u h i l e f = go (ℕ_discrete i n) (λ m. count_less n t u (λ j l. h j (omega arith)) i m e f)
  where
    go : Dec (i ≡ n) → (i < n → count_below n t < count_below n u) → count_below n t + one (t n) < count_below n u + one (u n)
    go (yes q) ih = rw (sym (ap t q) ∙ e, sym (ap u q) ∙ f) (omega (arith, count_le n t u (λ j l. h j (omega arith))))
    go (no d) ih = omega (arith, ih (omega arith), one-le (t n) (u n) (h n (le_refl _)))

module _ {c : List ℕ} {m n : ℕ} (well : WellFormed c m n) where
  -- line k is free and reads line j
  abbrev takes : ℕ → ℕ → Bool
  takes j k = not (bound c n k) && some_pin c k (λ i. eqb i j)

  -- a free line that no free line below b reads
  abbrev root : ℕ → ℕ → Bool
  root b j = not (bound c n j) && not (any_below b (takes j))

  takes_says : (j k : ℕ) → k < n → takes j k ≡ true → (s : ℕ) × PinReads c n j k s × (bound c n k ≡ false)
  takes_says j k l = go (bound c n k) refl
    where
      go : (t : Bool) → bound c n k ≡ t → (not t && some_pin c k (λ i. eqb i j)) ≡ true → (s : ℕ) × PinReads c n j k s × (bound c n k ≡ false)
      go true e h = absurd (false≢true h)
      go false e h = let w = it_reads c j k l h in (w.0, w.1, e)

  -- what is a root with one line more was one before
  root_before : (b j : ℕ) → root (suc b) j ≡ true → root b j ≡ true
  root_before b j = go (not (bound c n j)) (any_below b (takes j)) (takes j b)
    where
      go : (f a t : Bool) → (f && not (a || t)) ≡ true → (f && not a) ≡ true
      go true true t h = h
      go true false t h = refl
      go false a t h = h

  -- the first source of a free gate was a root, and is one no more
  module _ (b : ℕ) (l : b < n) (free : bound c n b ≡ false) (has : 1 ≤ pins_of (kind_at c b)) where
    source_root : root b (pin_at c b 1) ≡ true
    source_root =
        rw ((free_sources well b 1 l (le_refl 1) has free).1, none_any b (takes (pin_at c b 1)) (λ k h. go k h (takes (pin_at c b 1) k) refl))
      where
        go : (k : ℕ) → k < b → (t : Bool) → takes (pin_at c b 1) k ≡ t → t ≡ false
        go k h true e =
            let w = takes_says (pin_at c b 1) k (omega arith) e in
            absurd (omega (arith, (only_reader well b 1 l (le_refl 1) has free w.1).0))
        go k h false e = refl

    source_taken : root (suc b) (pin_at c b 1) ≡ false
    source_taken = go (not (bound c n (pin_at c b 1))) (any_below b (takes (pin_at c b 1))) (takes (pin_at c b 1) b) (rw (free, reads_it (reads well b 1 l (le_refl 1) has)))
      where
        go : (f a t : Bool) → t ≡ true → (f && not (a || t)) ≡ false
        go true true true e = refl
        go true false true e = refl
        go false a true e = refl
        go f a false e = absurd (false≢true e)

  roots_most : (b : ℕ) → b ≤ n → count_below b (root b) ≤ inputs_before c b
  unfolding count_below
  roots_most zero h = omega arith
  roots_most (suc b) h = go (is_input c b) refl (bound c n b) refl (roots_most b (omega arith))
    where
      le : count_below b (root (suc b)) ≤ count_below b (root b)
      le = count_le b (root (suc b)) (root b) (λ j _. root_before b j)

      go : (i : Bool)
          → is_input c b ≡ i
          → (t : Bool)
          → bound c n b ≡ t
          → count_below b (root b) ≤ count_below b (is_input c)
          → count_below b (root (suc b)) + one (root (suc b) b) ≤ count_below b (is_input c) + one (is_input c b)
      go true e t f ih = rw e (omega (arith, le, one_most (root (suc b) b)))
      go false e true f ih = rw (e, f) (omega (arith, le))
      go false e false f ih =
          let has = gate-pin (kind_at c b) (eqb-false (kind_at c b) 0 e) in
          let less = count_less b (root (suc b)) (root b) (λ j _. root_before b j) (pin_at c b 1) (pin_lower well b 1 h (le_refl 1) has) (source_taken b h f has) (source_root b h f has) in
          rw e (omega (arith, less, one_most (root (suc b) b)))

  -- a head line is a root to the end
  head-root : (j : ℕ) → head c n j ≡ true → root n j ≡ true
  head-root j e = rw (head-free well j e, none_any n (takes j) (λ k h. go k h (takes j k) refl))
    where
      go : (k : ℕ) → k < n → (t : Bool) → takes j k ≡ t → t ≡ false
      go k h true q =
          let w = takes_says j k h q in
          absurd (true≢false (sym e ∙ ap (head c n) (sym w.1.is) ∙ source_no-head well k w.0 h w.1.some w.1.has w.2))
      go k h false q = refl

  pub heads_most : heads_of c n ≤ inputs_before c n
  heads_most = omega (arith, count_le n (head c n) (root n) (λ j _. head-root j), roots_most n (le_refl n))
