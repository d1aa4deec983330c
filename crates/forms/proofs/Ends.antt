-- The ends of a text's lines: they ascend, up to the number of all words. So lines with two words each are no more than half of the words.
-- Assumes nothing.
use mathlib.Core.Path.{◌≡◌, refl, sym, ap, ◌∙◌}
use mathlib.Core.Logic.{⊎_elim}
use mathlib.Core.Bool.{Bool, true, false}
use mathlib.Core.List.{List, [], ◌∷◌}
use Prim.Native.Nat.{ℕ, zero, suc, ◌+◌, ◌*◌, ◌≤◌, ◌<◌}
use native.Mathlib.Decide.{ℕ_discrete}
use native.Mathlib.Omega.{arith}
use lib.ListN.{length, get_or, length-append, get_or-append}
use lib.Seq.{get_or_at}
use Rattle.ground.specs.Choose.{one}
use Rattle.ground.specs.Below.{count_below}
use Rattle.ground.specs.Lists.{collect}
use Rattle.ground.proofs.Tests.{either}
use Rattle.ground.proofs.Counting.{count_mono, nth}
use Rattle.ground.proofs.Lists.{collect-length}
use Rattle.ground.proofs.Collect.{collect_nth, collect_below}
use Rattle.words.specs.Words.{begins, feeds, words_to, words_in, ends_in}
use Rattle.forms.specs.Lines.{start_at, word_in, size_at}

-- ---- words

pub words_length : (t : List ℕ) → length (words_in t) ≡ words_to t (length t)
unfolding words_in
words_length t = collect-length (begins t) (λ i. i) (length t)

-- a word begins before the text's end
pub word_inside : (t : List ℕ) (i : ℕ) → i < length (words_in t) → get_or (words_in t) i 0 < length t
unfolding words_in
word_inside t = collect_below (begins t) (λ i. i) (length t) (length t) (λ k l e. l)

-- ---- ends

-- line k ends at this place of the text, before which k others end
record End (t : List ℕ) (k : ℕ) : Type 0 where
  pub place : ℕ
  pub inside : place ≤ length t
  pub before : count_below place (feeds t) ≡ k
  pub is : get_or (ends_in t) k 0 ≡ words_to t place

ends_length : (t : List ℕ) → length (ends_in t) ≡ count_below (length t) (feeds t) + 1
unfolding ends_in
ends_length t =
    length-append (collect (feeds t) (words_to t) (length t)) (words_to t (length t) ∷ [])
    ∙ ap (λ (x : ℕ). x + 1) (collect-length (feeds t) (words_to t) (length t))

end : (t : List ℕ) (k : ℕ) → k < length (ends_in t) → End t k
unfolding ends_in
end t k l = go (ℕ_discrete (length fed) k)
  where
    fed : List ℕ
    fed = collect (feeds t) (words_to t) (length t)

    long : length fed ≡ count_below (length t) (feeds t)
    long = collect-length (feeds t) (words_to t) (length t)

    go : Dec (length fed ≡ k) → End t k
    go (yes e) = record {
      place = length t;
      inside = omega arith;
      before = sym long ∙ e;
      is = get_or_at fed (words_to t (length t)) [] 0 k e;
    }
    go (no e) =
        let w = nth (feeds t) (length t) k (omega (arith, ends_length t, long)) in
        record {
          place = w.place;
          inside = omega (arith, w.below);
          before = w.before;
          is = get_or-append fed (words_to t (length t) ∷ []) 0 k (omega (arith, ends_length t, long)) ∙ collect_nth (feeds t) (words_to t) (length t) k w;
        }

module _ (t : List ℕ) where
  -- no end lies behind the last word
  pub end_below : (k : ℕ) → k < length (ends_in t) → get_or (ends_in t) k 0 ≤ words_to t (length t)
  end_below k l = let w = end t k l in omega (arith, w.is, count_mono (begins t) w.place (length t) w.inside)

  ascends : (k : ℕ) → suc k < length (ends_in t) → get_or (ends_in t) k 0 ≤ get_or (ends_in t) (suc k) 0
  ascends k l = go (end t k (omega arith)) (end t (suc k) l)
    where
      go : End t k → End t (suc k) → get_or (ends_in t) k 0 ≤ get_or (ends_in t) (suc k) 0
      go v w =
          let order : v.place ≤ w.place = ⊎_elim
          (λ h. let m = count_mono (feeds t) w.place v.place (omega arith) in absurd (omega (arith, v.before, w.before)))
          (λ h. h) (either w.place v.place) in
          omega (arith, v.is, w.is, count_mono (begins t) v.place w.place order)

  pub start_below : (k : ℕ) → k < length (ends_in t) → start_at (ends_in t) k ≤ get_or (ends_in t) k 0
  unfolding start_at
  start_below zero l = omega arith
  start_below (suc k) l = ascends k l

  -- word j of a line that has more is one of the text's
  pub line_inside : (k j : ℕ) → k < length (ends_in t) → j < size_at (ends_in t) k → word_in (words_in t) (ends_in t) k j < length t
  unfolding word_in size_at
  line_inside k j l h = word_inside t (start_at (ends_in t) k + j) (omega (arith, words_length t, end_below k l))

  -- ---- lines with two words each

  twice : (test : ℕ → Bool)
      → ((k : ℕ) → k < length (ends_in t) → test k ≡ true → 2 ≤ size_at (ends_in t) k)
      → (k : ℕ) → k ≤ length (ends_in t) → 2 * count_below k test ≤ start_at (ends_in t) k
  unfolding count_below start_at size_at
  twice test h zero l = omega arith
  twice test h (suc k) l = go (test k) refl (twice test h k (omega arith)) (start_below k l)
    where
      go : (b : Bool) → test k ≡ b → 2 * count_below k test ≤ start_at (ends_in t) k → start_at (ends_in t) k ≤ get_or (ends_in t) k 0
          → 2 * (count_below k test + one b) ≤ get_or (ends_in t) k 0
      go true e ih s = omega (arith, h k l e)
      go false e ih s = omega arith

  start_most : (k : ℕ) → k ≤ length (ends_in t) → start_at (ends_in t) k ≤ words_to t (length t)
  unfolding start_at
  start_most zero l = omega arith
  start_most (suc k) l = end_below k l

  pub lines_twice : (test : ℕ → Bool)
      → ((k : ℕ) → k < length (ends_in t) → test k ≡ true → 2 ≤ size_at (ends_in t) k)
      → 2 * count_below (length (ends_in t)) test ≤ words_to t (length t)
  lines_twice test h = omega (arith, twice test h (length (ends_in t)) (omega arith), start_most (length (ends_in t)) (omega arith))
