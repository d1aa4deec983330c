-- The words of all lines: where each line's stand, and what a line's words changed say.
-- Assumes nothing.
use mathlib.Core.Path.{◌≡◌, refl, sym, ap, ap₂, subst, ◌∙◌}
use mathlib.Core.List.{List, [], ◌∷◌}
use Prim.Native.Nat.{ℕ, ◌+◌, ◌*◌, ◌/◌, ◌%◌, ◌<◌}
use native.Mathlib.Decide.{ℕ_discrete}
use native.Mathlib.Omega.{arith}
use lib.ListN.{length, get_or, set, length-set}
use lib.Seq.{get_or-set_same, get_or-set_other, ext_get_or}
use Rattle.ground.proofs.Gather.{gather-length, gather_at}
use Rattle.lanes.specs.declared.Lanes.{Lanes}
use Rattle.lanes.specs.Lanes.{ones_of, zeros_of, laid}
use Rattle.lanes.proofs.Values.{laid_same}
use Rattle.lane_lines.specs.Lines.{line_words}
use Rattle.lane_lines.specs.Owed.{lanes_at, PairInside, Carries}

-- ---- where they stand

module _ (vs : ℕ → List ℕ) (n : ℕ) where
  pair : ℕ → List ℕ
  pair k = ones_of (λ i. get_or (vs i) k 0) ∷ zeros_of (λ i. get_or (vs i) k 0) ∷ []

  pub words_long : length (line_words vs n) ≡ 2 * n
  unfolding pair
  words_long = omega (arith, gather-length pair 2 (λ k. refl) n)

  at : (k j : ℕ) {x : ℕ} → k < n → j < 2 → x ≡ k * 2 + j → get_or (line_words vs n) x 0 ≡ get_or (pair k) j 0
  unfolding pair
  at k j l m e = ap (λ (x : ℕ). get_or (line_words vs n) x 0) e ∙ gather_at pair 2 (λ k. refl) 0 n k j l m

  pub words_ones : (k : ℕ) → k < n → get_or (line_words vs n) (2 * k) 0 ≡ ones_of (λ i. get_or (vs i) k 0)
  unfolding pair
  words_ones k l = at k 0 l (omega arith) (omega arith)

  pub words_zeros : (k : ℕ) → k < n → get_or (line_words vs n) (2 * k + 1) 0 ≡ zeros_of (λ i. get_or (vs i) k 0)
  unfolding pair
  words_zeros k l = at k 1 l (omega arith) (omega arith)

  pub words_carry : ((i : ℕ) → length (vs i) ≡ n) → Carries vs n (line_words vs n)
  words_carry each = record {
    long = words_long;
    values = each;
    lines = λ k l. ap₂ (λ (x y : ℕ). record { ones = x; zeros = y }) (words_ones k l) (words_zeros k l);
  }

  -- no other words carry these values
  pub words_are : {w : List ℕ} → Carries vs n w → w ≡ line_words vs n
  words_are {w} c = ext_get_or 0 w (line_words vs n) (c.long ∙ sym words_long) same
    where
      same : (x : ℕ) → x < length w → get_or w x 0 ≡ get_or (line_words vs n) x 0
      same x l = go (ℕ_discrete (x % 2) 0)
        where
          l' : x / 2 < n
          l' = omega (arith, c.long)

          go : Dec (x % 2 ≡ 0) → get_or w x 0 ≡ get_or (line_words vs n) x 0
          go (yes e) =
              let even : x ≡ 2 * (x / 2) = omega arith in
              subst (λ (y : ℕ). get_or w y 0 ≡ get_or (line_words vs n) y 0) (sym even) (ap (λ (a : Lanes). a.ones) (c.lines (x / 2) l') ∙ sym (words_ones (x / 2) l'))
          go (no d) =
              let odd : x ≡ 2 * (x / 2) + 1 = omega arith in
              subst (λ (y : ℕ). get_or w y 0 ≡ get_or (line_words vs n) y 0) (sym odd) (ap (λ (a : Lanes). a.zeros) (c.lines (x / 2) l') ∙ sym (words_zeros (x / 2) l'))

-- ---- the words of one line changed

abbrev pub put_at : List ℕ → ℕ → Lanes → List ℕ
put_at w k a = set (set w (2 * k) a.ones) (2 * k + 1) a.zeros

pub put_long : (w : List ℕ) (k : ℕ) (a : Lanes) → length (put_at w k a) ≡ length w
put_long w k a = simp length-set

pub put_here : {w : List ℕ} {k : ℕ} (a : Lanes) → PairInside w k → lanes_at (put_at w k a) k ≡ a
put_here {w} {k} a p =
    ap₂ (λ (x y : ℕ). record { ones = x; zeros = y })
    (get_or-set_other (set w (2 * k) a.ones) (2 * k + 1) (2 * k) a.zeros 0 (λ e. omega arith)
    ∙ get_or-set_same w (2 * k) a.ones 0 (omega (arith, p.inside)))
    (get_or-set_same (set w (2 * k) a.ones) (2 * k + 1) a.zeros 0 (simp length-set (omega (arith, p.inside))))

pub put_other : (w : List ℕ) (k j : ℕ) (a : Lanes) → (j ≡ k → ⊥) → lanes_at (put_at w k a) j ≡ lanes_at w j
put_other w k j a ne = ap₂ (λ (x y : ℕ). record { ones = x; zeros = y }) (other (2 * j) (λ e. ne (omega arith)) (λ e. omega arith)) (other (2 * j + 1) (λ e. omega arith) (λ e. ne (omega arith)))
  where
    other : (x : ℕ) → (x ≡ 2 * k → ⊥) → (x ≡ 2 * k + 1 → ⊥) → get_or (put_at w k a) x 0 ≡ get_or w x 0
    other x p q = get_or-set_other (set w (2 * k) a.ones) (2 * k + 1) x a.zeros 0 q ∙ get_or-set_other w (2 * k) x a.ones 0 p

module _ {vs : ℕ → List ℕ} {n k : ℕ} {w : List ℕ} (c : Carries vs n w) (l : k < n) where
  pub pair_inside : PairInside w k
  pair_inside = record { inside = omega (arith, c.long) }

  pub put_carries : {a : Lanes} (v : ℕ → ℕ) → a ≡ laid v → Carries (λ i. set (vs i) k (v i)) n (put_at w k a)
  put_carries {a} v e = record {
    long = put_long w k a ∙ c.long;
    values = λ i. length-set (vs i) k (v i) ∙ c.values i;
    lines = λ j m. go j m (ℕ_discrete j k);
  }
    where
      go : (j : ℕ) → j < n → Dec (j ≡ k) → lanes_at (put_at w k a) j ≡ laid (λ i. get_or (set (vs i) k (v i)) j 0)
      go j m (yes q) = rw q (put_here a pair_inside ∙ e ∙ laid_same _ _ (λ i _. sym (get_or-set_same (vs i) k (v i) 0 (omega (arith, c.values i)))))
      go j m (no d) = put_other w k j a d ∙ c.lines j m ∙ laid_same _ _ (λ i _. sym (get_or-set_other (vs i) k j (v i) 0 d))

-- other lists with the same values
pub carries_same : {vs us : ℕ → List ℕ} {n : ℕ} {w : List ℕ} → ((i : ℕ) → vs i ≡ us i) → Carries vs n w → Carries us n w
carries_same e c = record {
  long = c.long;
  values = λ i. rw (← e i) (c.values i);
  lines = λ k l. c.lines k l ∙ laid_same _ _ (λ i _. ap (λ (x : List ℕ). get_or x k 0) (e i));
}
