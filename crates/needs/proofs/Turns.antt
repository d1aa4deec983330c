-- The turns: each mark by those still in the set at its turn, and the needs met throughout.
-- Assumes nothing.
use mathlib.Core.Path.{◌≡◌, refl, sym, ap, ◌∙◌, subst}
use mathlib.Core.Bool.{Bool, true, false}
use mathlib.Core.List.{List}
use Prim.Native.Nat.{ℕ, zero, suc, ◌≤◌, ◌<◌}
use native.Mathlib.Decide.{ℕ_discrete, dec_lt}
use native.Mathlib.Omega.{arith}
use lib.Dec.{eqb}
use lib.ListN.{length, get_or, set, length-set, get_or-eq_default}
use lib.Seq.{get_or-set_same, get_or-set_other, set_out}
use borrow.Author.Tests.{lt-ltb, le-ltb}
use Rattle.ground.specs.Choose.{one}
use Rattle.tables.specs.Entries.{Entries}
use Rattle.needs.specs.Needs.{lacks, kept, turn, turns}
use Rattle.needs.specs.Words.{Meets, others}
use Rattle.needs.proofs.Words.{meets-is}
use Rattle.needs.proofs.Sets.{lacks-same}

-- ---- a mark taken away

set_here : (m : List ℕ) (p : ℕ) → get_or (set m p 0) p 0 ≡ 0
set_here m p = go (dec_lt p (length m))
  where
    go : Dec (p < length m) → get_or (set m p 0) p 0 ≡ 0
    go (yes l) = get_or-set_same m p 0 0 l
    go (no n) = ap (λ (x : List ℕ). get_or x p 0) (set_out m p 0 (omega arith)) ∙ get_or-eq_default m 0 (omega arith)

pub not-kept : (m : List ℕ) (p : ℕ) → kept (set m p 0) p ≡ false
not-kept m p = ap (λ (x : ℕ). eqb x 1) (set_here m p)

pub kept_other : (m : List ℕ) (p q : ℕ) → (q ≡ p → ⊥) → kept (set m p 0) q ≡ kept m q
kept_other m p q n = ap (λ (x : ℕ). eqb x 1) (get_or-set_other m p q 0 0 n)

-- ---- those still in the set at p's turn: marks m have all before p, and r has the marks of m after p

module _ (m r : List ℕ) (p : ℕ) (before : (q : ℕ) → q < p → get_or m q 0 ≡ 1) (after : (q : ℕ) → p < q → get_or r q 0 ≡ get_or m q 0) where
  still_in : (q : ℕ) → others r p q ≡ kept (set m p 0) q
  still_in q = go (dec_lt q p) (dec_lt p q)
    where
      go : Dec (q < p) → Dec (p < q) → others r p q ≡ kept (set m p 0) q
      go (yes l) y = rw (lt-ltb q p l, kept_other m p q (omega arith), before q l)
      go (no n) (yes l) = rw (le-ltb q p (omega arith), lt-ltb p q l, kept_other m p q (omega arith), after q l)
      go (no n) (no k) = let e : q ≡ p = omega arith in rw (e, le-ltb p p (omega arith), not-kept m p)

module _ (E : Entries) (F P : ℕ) where
  -- ---- one turn

  pub turn_drops : (m : List ℕ) (p : ℕ) → lacks E F P (kept (set m p 0)) ≡ false → turn E F P m p ≡ set m p 0
  unfolding turn
  turn_drops m p e = rw e

  pub turn_keeps : (m : List ℕ) (p : ℕ) → lacks E F P (kept (set m p 0)) ≡ true → turn E F P m p ≡ m
  unfolding turn
  turn_keeps m p e = rw e

  -- what holds of both ways holds of the turn
  turn-either : (m : List ℕ) (p : ℕ) (Q : List ℕ → Type 0) → (lacks E F P (kept (set m p 0)) ≡ false → Q (set m p 0)) → Q m → Q (turn E F P m p)
  turn-either m p Q a b = go (lacks E F P (kept (set m p 0))) refl
    where
      go : (t : Bool) → lacks E F P (kept (set m p 0)) ≡ t → Q (turn E F P m p)
      go false e = subst Q (sym (turn_drops m p e)) (a e)
      go true e = subst Q (sym (turn_keeps m p e)) b

  turn_other : (m : List ℕ) (p q : ℕ) → (q ≡ p → ⊥) → get_or (turn E F P m p) q 0 ≡ get_or m q 0
  turn_other m p q n = turn-either m p (λ x. get_or x q 0 ≡ get_or m q 0) (λ _. get_or-set_other m p q 0 0 n) refl

  turn_here : (m : List ℕ) (p : ℕ) → get_or m p 0 ≡ 1 → get_or (turn E F P m p) p 0 ≡ one (lacks E F P (kept (set m p 0)))
  turn_here m p in-it = go (lacks E F P (kept (set m p 0))) refl
    where
      go : (t : Bool) → lacks E F P (kept (set m p 0)) ≡ t → get_or (turn E F P m p) p 0 ≡ one t
      go false e = rw (turn_drops m p e) (set_here m p)
      go true e = rw (turn_keeps m p e) in-it

  -- ---- the turns

  turns_above : (n : ℕ) (m : List ℕ) (q : ℕ) → n ≤ q → get_or (turns E F P n m) q 0 ≡ get_or m q 0
  unfolding turns
  turns_above zero m q h = refl
  turns_above (suc n) m q h = turns_above n (turn E F P m n) q (omega arith) ∙ turn_other m n q (omega arith)

  pub turns-length : (n : ℕ) (m : List ℕ) → length (turns E F P n m) ≡ length m
  unfolding turns
  turns-length zero m = refl
  turns-length (suc n) m = turns-length n (turn E F P m n) ∙ turn-either m n (λ x. length x ≡ length m) (λ _. length-set m n 0) refl

  pub turns_meet : (n : ℕ) (m : List ℕ) → Meets E F P (kept m) → Meets E F P (kept (turns E F P n m))
  unfolding turns
  turns_meet zero m e = e
  turns_meet (suc n) m e = turns_meet n (turn E F P m n) (turn-either m n (λ x. Meets E F P (kept x)) (λ q. meets-is E F P (kept (set m n 0)) (rw q)) e)

  -- each mark is by those still in the set at its turn
  pub turns-mark : (n : ℕ) (m : List ℕ) → ((q : ℕ) → q < n → get_or m q 0 ≡ 1) → (p : ℕ) → p < n → get_or (turns E F P n m) p 0 ≡ one (lacks E F P (others (turns E F P n m) p))
  unfolding turns
  turns-mark zero m in-it p l = absurd (omega arith)
  turns-mark (suc n) m in-it p l = go (ℕ_discrete p n) (turns-mark n (turn E F P m n) (λ q h. turn_other m n q (omega arith) ∙ in-it q (omega arith)) p)
    where
      left : List ℕ
      left = turns E F P n (turn E F P m n)

      after : (q : ℕ) → n < q → get_or left q 0 ≡ get_or m q 0
      after q h = turns_above n (turn E F P m n) q (omega arith) ∙ turn_other m n q (omega arith)

      here : get_or left n 0 ≡ one (lacks E F P (others left n))
      here =
          turns_above n (turn E F P m n) n (omega arith) ∙ turn_here m n (in-it n (omega arith))
          ∙ ap one (lacks-same E F P (kept (set m n 0)) (others left n) (λ q _. sym (still_in m left n (λ q h. in-it q (omega arith)) after q)))

      go : Dec (p ≡ n) → (p < n → get_or left p 0 ≡ one (lacks E F P (others left p))) → get_or left p 0 ≡ one (lacks E F P (others left p))
      go (yes i) ih = rw i here
      go (no d) ih = ih (omega arith)
