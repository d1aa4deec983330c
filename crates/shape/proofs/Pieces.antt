-- The words of a line, piece by piece: gaps and words, one after the other.
-- Assumes nothing.
use mathlib.Core.Path.{◌≡◌, refl, sym, ap, ◌∙◌}
use mathlib.Core.Bool.{Bool, true, false, ◌&&◌, false≢true}
use mathlib.Core.List.{List, [], ◌∷◌, ◌++◌, append_assoc}
use Prim.Native.Nat.{ℕ}
use lib.Dec.{eqb}
use borrow.Author.Tests.{ne_eqb}
use Rattle.ground.specs.Choose.{choose}
use Rattle.words.specs.Words.{within, word_byte, word, mode}
use Rattle.shape.proofs.Symbols.{Gap}

-- all bytes are so
pub data All (P : ℕ → Type 0) : List ℕ → Type 0 where
  none : All P []
  more : {b : ℕ} {l : List ℕ} → P b → All P l → All P (b ∷ l)

abbrev pub Letter : ℕ → Type 0
Letter b = word_byte b ≡ true

abbrev pub NoFeed : ℕ → Type 0
NoFeed b = eqb b 10 ≡ false

pub all_append : {P : ℕ → Type 0} {l m : List ℕ} → All P l → All P m → All P (l ++ m)
all_append none n = n
all_append (more p a) n = more p (all_append a n)

pub all_are : {P Q : ℕ → Type 0} {l : List ℕ} → ((b : ℕ) → P b → Q b) → All P l → All Q l
all_are f none = none
all_are f (more {b = b} p a) = more (f b p) (all_are f a)

-- what follows a word: nothing, or no letter, digit or _
pub data Off : List ℕ → Type 0 where
  end : Off []
  on : {b : ℕ} {l : List ℕ} → word_byte b ≡ false → Off (b ∷ l)

-- the words that begin in the first line of a rest of a text, from mode m on
unfoldable pub line_words : ℕ → List ℕ → List (List ℕ)
line_words m [] = []
line_words m (b ∷ s) =
    choose (eqb b 10) [] (choose (eqb m 0 && word_byte b) (word (b ∷ s) ∷ line_words (mode m b) s) (line_words (mode m b) s))

-- ---- bytes

hash_off : word_byte 35 ≡ false
unfolding word_byte within
hash_off = refl

feed_off : word_byte 10 ≡ false
unfolding word_byte within
feed_off = refl

letter_no : (x b : ℕ) → word_byte x ≡ false → Letter b → eqb b x ≡ false
letter_no x b n w = ne_eqb b x (λ e. false≢true (sym n ∙ ap word_byte (sym e) ∙ w))

pub letter_no_feed : (b : ℕ) → Letter b → NoFeed b
letter_no_feed b w = letter_no 10 b feed_off w

gap_mode : {b : ℕ} → Gap b → mode 0 b ≡ 0
unfolding mode
gap_mode g = rw (g.no_feed, g.no_hash, g.off)

letter_mode : (m b : ℕ) → eqb m 2 ≡ false → Letter b → mode m b ≡ 1
unfolding mode
letter_mode m b n w = rw (letter_no 10 b feed_off w, n, letter_no 35 b hash_off w, w)

-- ---- gaps

pub gap_words : {b : ℕ} (s : List ℕ) → Gap b → line_words 0 (b ∷ s) ≡ line_words 0 s
unfolding line_words
gap_words s g = rw (g.no_feed, g.off, gap_mode g)

-- ---- words

word-is : {w : List ℕ} → All Letter w → {rest : List ℕ} → Off rest → word (w ++ rest) ≡ w
unfolding word
word-is none end = refl
word-is none (on n) = rw n
word-is (more {b = b} h a) o = rw h (ap (λ (v : List ℕ). b ∷ v) (word-is a o))

-- inside a word none begins
off_words : {rest : List ℕ} → Off rest → line_words 1 rest ≡ line_words 0 rest
unfolding line_words mode
off_words end = refl
off_words (on n) = rw n

inside : {w : List ℕ} → All Letter w → {rest : List ℕ} → Off rest → line_words 1 (w ++ rest) ≡ line_words 0 rest
unfolding line_words
inside none o = off_words o
inside (more {b = b} h a) o = rw (letter_no_feed b h, letter_mode 1 b refl h) (inside a o)

pub word_words : {x : ℕ} {w : List ℕ} → All Letter (x ∷ w) → {rest : List ℕ} → Off rest → line_words 0 ((x ∷ w) ++ rest) ≡ (x ∷ w) ∷ line_words 0 rest
unfolding line_words
word_words {x} {w} (more h a) {rest} o =
    rw (letter_no_feed x h, h, letter_mode 0 x refl h)
    (ap (λ (v : List ℕ). v ∷ line_words 1 (w ++ rest)) (word-is (more h a) o) ∙ ap (λ (v : List (List ℕ)). (x ∷ w) ∷ v) (inside a o))

-- ---- comments have none, and neither has the line's end

comment-mode : (b : ℕ) → NoFeed b → mode 2 b ≡ 2
unfolding mode
comment-mode b e = rw e

comment_words : (s : List ℕ) → line_words 2 s ≡ []
unfolding line_words
comment_words [] = refl
comment_words (b ∷ s) = go (eqb b 10) refl (comment_words s)
  where
    go : (t : Bool) → eqb b 10 ≡ t → line_words 2 s ≡ [] → choose t [] (line_words (mode 2 b) s) ≡ []
    go true e ih = refl
    go false e ih = ap (λ (m : ℕ). line_words m s) (comment-mode b e) ∙ ih

pub hash_words : (s : List ℕ) → line_words 0 (35 ∷ s) ≡ []
unfolding line_words word_byte within mode
hash_words s = comment_words s

-- the text ends, or the line does
pub data Ends : List ℕ → Type 0 where
  text : Ends []
  line : {s : List ℕ} → Ends (10 ∷ s)

pub ends_off : {s : List ℕ} → Ends s → Off s
ends_off text = end
ends_off line = on feed_off

pub ends_words : (m : ℕ) {s : List ℕ} → Ends s → line_words m s ≡ []
unfolding line_words
ends_words m text = refl
ends_words m line = refl

-- ---- a part of a line, as gaps and words

pub data Pieces : List ℕ → List (List ℕ) → Type 0 where
  none : Pieces [] []
  gap : {b : ℕ} {l : List ℕ} {ws : List (List ℕ)} → Gap b → Pieces l ws → Pieces (b ∷ l) ws
  name : {x : ℕ} {w l : List ℕ} {ws : List (List ℕ)} → All Letter (x ∷ w) → Off l → Pieces l ws → Pieces ((x ∷ w) ++ l) ((x ∷ w) ∷ ws)

off_append : {l rest : List ℕ} → Off l → Off rest → Off (l ++ rest)
off_append end o = o
off_append (on n) o = on n

pub pieces_words : {l : List ℕ} {ws : List (List ℕ)} → Pieces l ws → {rest : List ℕ} → Off rest → line_words 0 (l ++ rest) ≡ ws ++ line_words 0 rest
pieces_words none o = refl
pieces_words (gap {l = l} g p) {rest} o = gap_words (l ++ rest) g ∙ pieces_words p o
pieces_words (name {x = x} {w = w} {l = l} a f p) {rest} o =
    ap (λ (s : List ℕ). line_words 0 s) (append_assoc (x ∷ w) l rest)
    ∙ word_words a (off_append f o)
    ∙ ap (λ (v : List (List ℕ)). (x ∷ w) ∷ v) (pieces_words p o)

pub pieces_no_feed : {l : List ℕ} {ws : List (List ℕ)} → Pieces l ws → All NoFeed l
pieces_no_feed none = none
pieces_no_feed (gap g p) = more g.no_feed (pieces_no_feed p)
pieces_no_feed (name a f p) = all_append (all_are letter_no_feed a) (pieces_no_feed p)

-- gaps before a part
pub gaps : {g l : List ℕ} {ws : List (List ℕ)} → All Gap g → Pieces l ws → Pieces (g ++ l) ws
gaps none p = p
gaps (more h a) p = gap h (gaps a p)

pub gaps_off : {g l : List ℕ} → All Gap g → Off l → Off (g ++ l)
gaps_off none o = o
gaps_off (more h a) o = on h.off

pub pieces_of : {l m : List ℕ} {ws : List (List ℕ)} → l ≡ m → Pieces m ws → Pieces l ws
pieces_of e p = rw e p
