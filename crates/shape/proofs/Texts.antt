-- A text that is right in syntax, line by line: its tables have the words of a statement, or none, in each line.
-- Assumes nothing.
use mathlib.Core.Path.{◌≡◌, refl, sym, ap, ◌∙◌, subst}
use mathlib.Core.Bool.{Bool, false, ◌&&◌}
use mathlib.Core.List.{List, [], ◌∷◌, ◌++◌, append-nil}
use Prim.Native.Nat.{ℕ, suc, ◌+◌, ◌-◌, ◌≤◌}
use native.Mathlib.Omega.{arith}
use lib.Dec.{T, eqb}
use lib.ListN.{length, drop, length-drop}
use lib.Seq.{drop-drop, drop-append_seam}
use Rattle.ground.specs.Lists.{collect}
use Rattle.ground.proofs.Tests.{never_both}
use Rattle.ground.proofs.Lists.{collect-length}
use Rattle.ground.proofs.Collect.{collect_yes, collect-no}
use Rattle.words.specs.Words.{within, word_byte, mode, mode_to, begins, feeds, words_to, words_in, ends_in}
use Rattle.syntax.specs.Regular as r
use Rattle.syntax.specs.Regular.{seq, star, has, Many, stop, Has}
use Rattle.syntax.specs.Grammar.{signs, place_in, symbol, symbols, sign, line, bench}
use Rattle.syntax.specs.Syntax.{Formed}
use Rattle.shape.specs.Shape.{Shape}
use Rattle.shape.proofs.Symbols.{has_own}
use Rattle.shape.proofs.Pieces as p
use Rattle.shape.proofs.Pieces.{Ends}
use Rattle.shape.proofs.Parse.{two, split, nil, sign-is}
use Rattle.shape.proofs.Lines.{RightLine, right-line}
use Rattle.shape.proofs.Scan.{words_below, ends_below, byte_here, rest_after, mode-after, scan}
use Rattle.shape.proofs.Rows.{Rows, none, more}

-- a line begins at byte i, and l is the rest
record Begins (t : List ℕ) (i : ℕ) (l : List ℕ) : Type 0 where
  inside : i ≤ length t
  rest : drop i t ≡ l
  fresh : mode_to t i ≡ 0
  rows : Rows t (words_below t i) (ends_below t i)

-- the words of this line and its end are entered
rows-line : {t l rest : List ℕ} {i : ℕ} → RightLine l → Begins t i (l ++ rest) → Ends rest
    → Rows t (words_below t (i + length l)) (ends_below t (i + length l) ++ (words_to t (i + length l) ∷ []))
rows-line {t} {l} {rest} {i} q b e =
    let s = scan t 0 i q.no_feed e b.rest b.fresh in
    rw (s.words_are, s.ends_are, ← collect-length (begins t) (λ j. j) (i + length l), s.words_are)
    (more s.starts b.rows (subst Shape (sym s.are) (q.shape rest e)))

feed_own : T (has_own 10)
unfolding symbol has signs place_in
feed_own = tt

feed_off : (x : Bool) → (x && word_byte 10) ≡ false
unfolding word_byte within
feed_off x = never_both x (word_byte 10) (λ e. refl)

feed_mode : (m : ℕ) → mode m 10 ≡ 0
unfolding mode
feed_mode m = refl

-- a line feed, and then the next line
next-line : {t l s : List ℕ} {i : ℕ} → RightLine l → Begins t i (l ++ (10 ∷ s)) → Begins t (suc (i + length l)) s
next-line {t} {l} {s} {i} q b =
    let e : drop (i + length l) t ≡ 10 ∷ s = sym (drop-drop (length l) i t) ∙ ap (drop (length l)) b.rest ∙ drop-append_seam l (10 ∷ s) in
    let here = byte_here t s (i + length l) 10 e in
    let long : length t - (i + length l) ≡ suc (length s) = sym (length-drop (i + length l) t) ∙ ap length e in
    let no_word : begins t (i + length l) ≡ false = rw here (feed_off (eqb (mode_to t (i + length l)) 0)) in
    let w = collect-no (begins t) (λ k. k) (i + length l) no_word in
    let f = collect_yes (feeds t) (words_to t) (i + length l) (ap (λ (x : ℕ). eqb x 10) here) in
    record {
      inside = omega arith;
      rest = rest_after t s (i + length l) 10 e;
      fresh = mode-after t s (i + length l) 10 e refl ∙ feed_mode _;
      rows = rw (w, f) (rows-line q b p.line);
    }

last_line : {t l : List ℕ} {i : ℕ} → RightLine l → Begins t i (l ++ []) → Rows t (words_in t) (ends_in t)
unfolding words_in ends_in
last_line {t} {l} {i} q b =
    let long : length t - i ≡ length l = sym (length-drop i t) ∙ ap length b.rest ∙ ap length (append-nil l) in
    let n : i + length l ≡ length t = omega (arith, b.inside) in
    subst (λ (k : ℕ). Rows t (words_below t k) (ends_below t k ++ (words_to t k ∷ []))) n (rows-line q b p.text)

lines : {t w : List ℕ} → Many (Has (seq (sign 10) line)) w → (rest : List ℕ) → symbols rest ≡ w
    → {l : List ℕ} → RightLine l → {i : ℕ} → Begins t i (l ++ rest)
    → Rows t (words_in t) (ends_in t)
lines stop rest e q b = last_line q (rw (nil rest e) at b)
lines (r.more u v j h m) rest e q b =
    let s = split u rest v (e ∙ j) in
    let w = two (sign 10) line s.left (rw s.left_is h) in
    let here : rest ≡ 10 ∷ (w.right ++ s.right) =
    s.whole ∙ ap (λ (x : List ℕ). x ++ s.right) (w.whole ∙ ap (λ (x : List ℕ). x ++ w.right) (sign-is 10 feed_own w.left w.first)) in
    lines m s.right s.right_is (right-line w.right w.second) (next-line q (rw here at b))

start : (t : List ℕ) → Begins t 0 t
unfolding collect mode_to
start t = record { inside = omega arith; rest = refl; fresh = refl; rows = none }

pub rows_of : (t : List ℕ) → Formed t → Rows t (words_in t) (ends_in t)
unfolding Formed bench Has
rows_of t h =
    let w = two line (star (seq (sign 10) line)) t h in
    lines w.second w.right refl (right-line w.left w.first) (subst (Begins t 0) w.whole (start t))
