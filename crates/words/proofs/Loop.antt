-- The loop of `cut`: the words and the ends of lines so far.
-- Assumes nothing.
use mathlib.Core.Path.{◌≡◌, refl, sym, ap, ◌∙◌}
use mathlib.Core.Bool.{Bool, true, false, ◌&&◌}
use mathlib.Core.List.{List, [], ◌∷◌, ◌++◌}
use Prim.Native.Nat.{ℕ, suc, ◌+◌, ◌*◌, ◌≤◌, ◌<◌}
use native.Mathlib.Numerals.{add-one}
use native.Mathlib.Omega.{arith}
use lib.Dec.{eqb}
use lib.ListN.{length, get_or, set, length-set}
use lib.Seq.{take-suc-set}
use Rattle.ground.specs.Choose.{choose, one}
use Rattle.ground.specs.Below.{count_below}
use Rattle.ground.specs.Lists.{collect}
use Rattle.ground.proofs.Counting.{count_most}
use Rattle.ground.proofs.Lists.{Collected, collected_none, collected_more}
use Rattle.ground.proofs.Collect.{collect-no}
use Rattle.words.specs.Words.{word_byte, mode, mode_to, begins, feeds, words_to, words_in, ends_in}
use Rattle.words.specs.Owed.{CutRoom, CutDone}
use Rattle.words.proofs.Halves.{half}

pub record SoFar (t ws es : List ℕ) (m w k i : ℕ) : Type 0 where
  pub at_most : i ≤ length t
  pub short : length t ≤ 32768
  pub for_words : length ws ≡ 16385
  pub for_ends : length es ≡ 32769
  pub mode-is : m ≡ mode_to t i
  pub words_in_lem : 2 * w ≤ i + 1
  pub ends_in_lem : k ≤ i
  pub words_are : Collected (begins t) (λ i. i) ws w i
  pub ends_are : Collected (feeds t) (words_to t) es k i

pub start : {t ws es : List ℕ} → CutRoom t ws es → SoFar t ws es 0 0 0 0
unfolding mode_to
start r = record {
  at_most = omega arith;
  short = r.short;
  for_words = r.for_words;
  for_ends = r.for_ends;
  mode-is = refl;
  words_in_lem = omega arith;
  ends_in_lem = omega arith;
  words_are = collected_none _ _ _;
  ends_are = collected_none _ _ _;
}

-- what is written only where the test holds
collected_if : {test : ℕ → Bool} {f : ℕ → ℕ} {out : List ℕ} {d k : ℕ} → Collected test f out d k → d < length out
    → (x : ℕ) → x ≡ f k → Collected test f (choose (test k) (set out d x) out) (d + one (test k)) (suc k)
unfolding collect count_below
collected_if {test} {f} {out} {d} {k} s room x e = go (test k) refl
  where
    go : (b : Bool) → test k ≡ b → Collected test f (choose b (set out d x) out) (d + one b) (suc k)
    go true q = rw q at (collected_more s room x (λ p. e))
    go false q =
        let z : d + 0 ≡ d = omega arith in
        rw z (record { count = rw q (omega (arith, s.count)); are = s.are ∙ sym (collect-no test f k q) })

long_if : (b : Bool) (l : List ℕ) (d x : ℕ) → length (choose b (set l d x) l) ≡ length l
long_if true l d x = length-set l d x
long_if false l d x = refl

module _ {t ws es : List ℕ} {m w k i : ℕ} (s : SoFar t ws es m w k i) (l : i < length t) where
  begins-is : (eqb m 0 && word_byte (get_or t i 0)) ≡ begins t i
  begins-is = ap (λ (x : ℕ). eqb x 0 && word_byte (get_or t i 0)) s.mode-is

  pub more : {es' : List ℕ} (w' m' : ℕ) {k' : ℕ}
      → (es' ≡ choose (feeds t i) (set es k w) es) × (k' ≡ k + one (feeds t i))
      → w' ≡ one (eqb m 0 && word_byte (get_or t i 0))
      → m' ≡ mode m (get_or t i 0)
      → SoFar t (set ws w i) es' m' (w + w') k' (i + 1)
  unfolding mode_to
  more w' m' q p r =
      let words-next = collected_more s.words_are (omega (arith, s.words_in_lem, s.short, s.for_words)) i (λ e. refl) in
      let Ends-next = collected_if s.ends_are (omega (arith, s.ends_in_lem, s.short, s.for_ends)) w s.words_are.count in
      let w-is : w + w' ≡ w + one (begins t i) = ap (λ (x : ℕ). w + x) (p ∙ ap one begins-is) in
      rw (add-one i, w-is, q.0, q.1)
      (record {
        at_most = omega arith;
        short = s.short;
        for_words = length-set ws w i ∙ s.for_words;
        for_ends = long_if (feeds t i) es k w ∙ s.for_ends;
        mode-is = r ∙ ap (λ (x : ℕ). mode x (get_or t i 0)) s.mode-is;
        words_in_lem = omega (arith, half t (suc i), words-next.count);
        ends_in_lem = omega (arith, Ends-next.count, count_most (suc i) (feeds t));
        words_are = words-next;
        ends_are = Ends-next;
      })

pub finished : {t ws es : List ℕ} {m w k i : ℕ} → SoFar t ws es m w k i → length t ≤ i → CutDone t ws (set es k w) w (k + 1)
unfolding words_in ends_in
finished {t} {ws} {es} {m} {w} {k} {i} s h =
    let e : i ≡ length t = omega (arith, s.at_most) in
    record {
      some = omega arith;
      most_lines = omega (arith, s.ends_in_lem, s.at_most, s.short);
      most_words = omega (arith, s.words_in_lem, s.at_most, s.short);
      words_are = rw (← e) s.words_are.are;
      lines_are =
          rw (add-one k, ← e)
          (take-suc-set es k w (omega (arith, s.ends_in_lem, s.at_most, s.short, s.for_ends))
          ∙ ap (λ (x : List ℕ). x ++ (w ∷ [])) s.ends_are.are
          ∙ ap (λ (x : ℕ). collect (feeds t) (words_to t) i ++ (x ∷ [])) s.words_are.count);
    }
