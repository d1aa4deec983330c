-- The words that begin in one line of a text, where the table of words has them.
-- Assumes nothing.
use mathlib.Core.Path.{◌≡◌, refl, sym, ap, ◌∙◌}
use mathlib.Core.Bool.{Bool, true, false, ◌&&◌}
use mathlib.Core.List.{List, [], ◌∷◌, ◌++◌, map, append_assoc, append-nil}
use Prim.Native.Nat.{ℕ, suc, ◌+◌}
use native.Mathlib.Nat.{add-zero}
use native.Mathlib.Numerals.{add-one}
use native.Mathlib.Omega.{arith}
use lib.Dec.{eqb}
use lib.ListN.{length, get_or, drop}
use lib.Seq.{get_or-drop, drop-drop}
use Rattle.ground.specs.Lists.{collect}
use Rattle.ground.proofs.Collect.{collect_yes, collect-no}
use Rattle.words.specs.Words.{word_byte, word, word_at, mode, mode_to, begins, feeds, words_to}
use Rattle.shape.proofs.Pieces as p
use Rattle.shape.proofs.Pieces.{All, NoFeed, Ends, line_words}

-- the words that begin, and the lines that end, before byte i
abbrev pub words_below : List ℕ → ℕ → List ℕ
words_below t i = collect (begins t) (λ j. j) i

abbrev pub ends_below : List ℕ → ℕ → List ℕ
ends_below t i = collect (feeds t) (words_to t) i

-- ---- the rest of a text at byte i

module _ (t s : List ℕ) (i b : ℕ) (e : drop i t ≡ b ∷ s) where
  pub byte_here : get_or t i 0 ≡ b
  byte_here = rw (← add-zero i) (sym (get_or-drop i t 0 0) ∙ ap (λ (l : List ℕ). get_or l 0 0) e)

  pub rest_after : drop (suc i) t ≡ s
  rest_after = rw (← add-one i) (sym (drop-drop 1 i t) ∙ ap (drop 1) e)

  pub mode-after : {m : ℕ} → mode_to t i ≡ m → mode_to t (suc i) ≡ mode m b
  unfolding mode_to
  mode-after q = rw (q, byte_here)

-- ---- the part l of a line, which begins at byte i in mode m

pub record Scanned (t l rest : List ℕ) (m i : ℕ) : Type 0 where
  pub starts : List ℕ
  pub are : map (word_at t) starts ≡ line_words m (l ++ rest)
  pub words_are : words_below t (i + length l) ≡ words_below t i ++ starts
  pub ends_are : ends_below t (i + length l) ≡ ends_below t i

module _ (t l rest : List ℕ) (m i b : ℕ) (e : drop i t ≡ (b ∷ l) ++ rest) (q : mode_to t i ≡ m) (f : NoFeed b) (s : Scanned t l rest (mode m b) (suc i)) where
  begins-is : begins t i ≡ (eqb m 0 && word_byte b)
  begins-is = rw (q, byte_here t (l ++ rest) i b e)

  further : i + suc (length l) ≡ suc i + length l
  further = omega arith

  ends_more : ends_below t (i + length (b ∷ l)) ≡ ends_below t i
  ends_more = rw further (s.ends_are ∙ collect-no (feeds t) (words_to t) i (ap (λ (x : ℕ). eqb x 10) (byte_here t (l ++ rest) i b e) ∙ f))

  scan_more : Scanned t (b ∷ l) rest m i
  unfolding line_words
  scan_more = go (eqb m 0 && word_byte b) refl
    where
      go : (x : Bool) → (eqb m 0 && word_byte b) ≡ x → Scanned t (b ∷ l) rest m i
      go true x = record {
        starts = i ∷ s.starts;
        are = rw (f, x) (ap (λ (v : List ℕ). word v ∷ map (word_at t) s.starts) e ∙ ap (λ (v : List (List ℕ)). word ((b ∷ l) ++ rest) ∷ v) s.are);
        words_are =
            rw further
            (s.words_are
            ∙ ap (λ (v : List ℕ). v ++ s.starts) (collect_yes (begins t) (λ j. j) i (begins-is ∙ x))
            ∙ append_assoc (words_below t i) (i ∷ []) s.starts);
        ends_are = ends_more;
      }
      go false x = record {
        starts = s.starts;
        are = rw (f, x) s.are;
        words_are = rw further (s.words_are ∙ ap (λ (v : List ℕ). v ++ s.starts) (collect-no (begins t) (λ j. j) i (begins-is ∙ x)));
        ends_are = ends_more;
      }

pub scan : (t : List ℕ) {l rest : List ℕ} (m i : ℕ) → All NoFeed l → Ends rest → drop i t ≡ l ++ rest → mode_to t i ≡ m → Scanned t l rest m i
scan t m i p.none f e q = record {
  starts = [];
  are = sym (p.ends_words m f);
  words_are = rw (add-zero i) (sym (append-nil (words_below t i)));
  ends_are = rw (add-zero i);
}
scan t {rest = rest} m i (p.more {b = b} {l = l} n a) f e q =
    scan_more t l rest m i b e q n (scan t (mode m b) (suc i) a f (rest_after t (l ++ rest) i b e) (mode-after t (l ++ rest) i b e q))
