-- The words of a right line are those of a statement, or there are none.
-- Assumes nothing.
use mathlib.Core.Path.{◌≡◌, refl, sym, ap, ◌∙◌, subst}
use mathlib.Core.Logic.{⊎_elim}
use mathlib.Core.Bool.{true, false, false≢true}
use mathlib.Core.List.{List, [], ◌∷◌, ◌++◌, append_assoc, append-nil}
use Prim.Native.Nat.{ℕ}
use lib.Dec.{T}
use lib.ListN.{length}
use Rattle.words.specs.Words.{within, word_byte}
use Rattle.syntax.specs.Regular.{Re, eps, one, seq, alt, star, has, Has}
use Rattle.syntax.specs.Grammar.{signs, place_in, symbol, symbols, sign, keys, blanks, name, mark, close, one_argument, two_arguments, gate, statement, comment, line}
use Rattle.syntax.specs.Kinds.{input_word, output_word, port_words, kinds, kind_words, Among}
use Rattle.shape.specs.Shape.{Shape, blank, port}
use Rattle.shape.proofs.Symbols.{Gap, has_own, no_feed_byte}
use Rattle.shape.proofs.Pieces as p
use Rattle.shape.proofs.Pieces.{All, NoFeed, Off, Ends, Pieces, line_words}
use Rattle.shape.proofs.Parse.{two, nil, sign-is, all_of, blanks_gap}
use Rattle.shape.proofs.Spelling.{Spelt, keywords, keys_spelt, worded, named, SpelledMark, marked}

-- ---- the signs and the keywords

-- a sign between words
record Sign (k : ℕ) : Type 0 where
  own : T (has_own k)
  is_gap : Gap k

opening : Sign 40
unfolding symbol has signs place_in word_byte within
opening = record { own = tt; is_gap = record { off = refl; no_hash = refl; no_feed = refl } }

closing : Sign 41
unfolding symbol has signs place_in word_byte within
closing = record { own = tt; is_gap = record { off = refl; no_hash = refl; no_feed = refl } }

comma : Sign 44
unfolding symbol has signs place_in word_byte within
comma = record { own = tt; is_gap = record { off = refl; no_hash = refl; no_feed = refl } }

equals : Sign 61
unfolding symbol has signs place_in word_byte within
equals = record { own = tt; is_gap = record { off = refl; no_hash = refl; no_feed = refl } }

port_spelt : (l : List ℕ) → Has (keys port_words) (symbols l) → Spelt (Among port_words) l
unfolding symbol has signs place_in word_byte within input_word output_word
port_spelt = keys_spelt (Among port_words) port_words tt (λ w k. k)

kind_spelt : (n : ℕ) → T (keywords (kind_words n)) → (l : List ℕ) → Has (keys (kind_words n)) (symbols l) → Spelt (Among (kind_words n)) l
kind_spelt n t = keys_spelt (Among (kind_words n)) (kind_words n) t (λ w k. k)

of_one : T (keywords (kind_words 1))
unfolding symbol has signs place_in word_byte within kind_words kinds
of_one = tt

of_two : T (keywords (kind_words 2))
unfolding symbol has signs place_in word_byte within kind_words kinds
of_two = tt

-- ---- the arguments

signed : {k : ℕ} (r : Re) (l : List ℕ) → Sign k → Has (mark k r) (symbols l) → SpelledMark r l
signed {k} r l s h = marked k r l s.own s.is_gap h

-- a part before which a word may end, and its words
record Part (l : List ℕ) (ws : List (List ℕ)) : Type 0 where
  off : Off l
  pieces : Pieces l ws

closed : (l : List ℕ) → Has close (symbols l) → Part l []
unfolding close
closed l h =
    let w = two (sign 41) blanks l h in
    let e : l ≡ 41 ∷ w.right = w.whole ∙ ap (λ (x : List ℕ). x ++ w.right) (sign-is 41 closing.own w.left w.first) in
    let g : Pieces w.right [] = subst (λ (x : List ℕ). Pieces x []) (append-nil w.right) (p.gaps (blanks_gap w.right w.second) p.none) in
    record { off = subst Off (sym e) (p.on closing.is_gap.off); pieces = p.pieces_of e (p.gap closing.is_gap g) }

-- a name and the closing parenthesis
last_name : (l : List ℕ) → Has (name close) (symbols l) → (y : List ℕ) × Pieces l (y ∷ [])
last_name l h =
    let n = named close l h in
    let c = closed n.rest n.follows in
    (n.word, n.pieces c.off c.pieces)

one_argument_lem : (l : List ℕ) → Has one_argument (symbols l) → (y : List ℕ) × Part l (y ∷ [])
unfolding one_argument
one_argument_lem l h =
    let m = signed (name close) l opening h in
    let y = last_name m.rest m.follows in
    (y.0, record { off = m.off; pieces = m.pieces y.1 })

two_arguments_lem : (l : List ℕ) → Has two_arguments (symbols l) → (y : List ℕ) × (z : List ℕ) × Part l (y ∷ z ∷ [])
unfolding two_arguments
two_arguments_lem l h =
    let m = signed (name (mark 44 (name close))) l opening h in
    let n = named (mark 44 (name close)) m.rest m.follows in
    let k = signed (name close) n.rest comma n.follows in
    let z = last_name k.rest k.follows in
    (n.word, z.0, record { off = m.off; pieces = m.pieces (n.pieces k.off (k.pieces z.1)) })

-- ---- gates and statements

-- a gate's kind and its sources
record Gate (l : List ℕ) : Type 0 where
  kind : List ℕ
  sources : List (List ℕ)
  is : Among (kind_words (length sources)) kind
  pieces : Pieces l (kind ∷ sources)

gates : (l : List ℕ) → Has gate (symbols l) → Gate l
unfolding gate Has
gates l h =
    ⊎_elim
    (λ s.
    let k = worded (keys (kind_words 1)) one_argument (kind_spelt 1 of_one) l s in
    let y = one_argument_lem k.rest k.follows in
    record { kind = k.word; sources = y.0 ∷ []; is = k.kind; pieces = k.pieces y.1.off y.1.pieces })
    (λ s.
    let k = worded (keys (kind_words 2)) two_arguments (kind_spelt 2 of_two) l s in
    let y = two_arguments_lem k.rest k.follows in
    record { kind = k.word; sources = y.0 ∷ y.1 ∷ []; is = k.kind; pieces = k.pieces y.2.off y.2.pieces })
    h

record Said (l : List ℕ) : Type 0 where
  words : List (List ℕ)
  shape : Shape words
  pieces : Pieces l words

statements : (l : List ℕ) → Has statement (symbols l) → Said l
unfolding statement Has
statements l h =
    ⊎_elim
    (λ s.
    let k = worded (keys port_words) one_argument port_spelt l s in
    let y = one_argument_lem k.rest k.follows in
    record { words = k.word ∷ y.0 ∷ []; shape = port k.word y.0 k.kind; pieces = k.pieces y.1.off y.1.pieces })
    (λ s.
    let n = named (mark 61 gate) l s in
    let m = signed gate n.rest equals n.follows in
    let g = gates m.rest m.follows in
    record {
      words = n.word ∷ g.kind ∷ g.sources;
      shape = Shape.gate n.word g.kind g.sources g.is;
      pieces = n.pieces m.off (m.pieces g.pieces);
    })
    h

-- ---- lines

-- a comment, or nothing
record Quiet (l : List ℕ) : Type 0 where
  no_feed : All NoFeed l
  off : (rest : List ℕ) → Ends rest → Off (l ++ rest)
  silent : (rest : List ℕ) → Ends rest → line_words 0 (l ++ rest) ≡ []

empty_quiet : Quiet []
empty_quiet = record { no_feed = p.none; off = λ rest e. p.ends_off e; silent = λ rest e. p.ends_words 0 e }

hash_own : T (has_own 35)
unfolding symbol has signs place_in
hash_own = tt

hash_off : word_byte 35 ≡ false
unfolding word_byte within
hash_off = refl

abbrev no_feeds : List ℕ
no_feeds = 0 ∷ 2 ∷ 3 ∷ 4 ∷ 5 ∷ 6 ∷ 7 ∷ 8 ∷ 9 ∷ 10 ∷ 11 ∷ 12 ∷ 13 ∷ 14 ∷ 15 ∷ 16 ∷ 17 ∷ 18 ∷ 19 ∷ 20 ∷ []

no-feeds : (b : ℕ) → has no_feeds (symbol b) ≡ true → NoFeed b
unfolding has
no-feeds b h = no_feed_byte b (λ e. false≢true (ap (has no_feeds) (sym e) ∙ h))

comment_quiet : (l : List ℕ) → Has comment (symbols l) → Quiet l
unfolding comment
comment_quiet l h =
    let w = two (sign 35) (star (one no_feeds)) l h in
    let e : l ≡ 35 ∷ w.right = w.whole ∙ ap (λ (x : List ℕ). x ++ w.right) (sign-is 35 hash_own w.left w.first) in
    subst Quiet (sym e)
    (record {
      no_feed = p.more refl (all_of no_feeds NoFeed no-feeds w.right w.second);
      off = λ rest f. p.on hash_off;
      silent = λ rest f. p.hash_words (w.right ++ rest);
    })

quiet : (l : List ℕ) → Has (alt eps comment) (symbols l) → Quiet l
unfolding Has
quiet l h = ⊎_elim (λ e. rw (nil l e) empty_quiet) (λ s. comment_quiet l s) h

said : (l : List ℕ) → Has (alt eps statement) (symbols l) → Said l
unfolding Has
said l h = ⊎_elim (λ e. rw (nil l e) (record { words = []; shape = blank; pieces = p.none })) (λ s. statements l s) h

-- a line without its line feed, up to where it ends
pub record RightLine (l : List ℕ) : Type 0 where
  pub no_feed : All NoFeed l
  pub shape : (rest : List ℕ) → Ends rest → Shape (line_words 0 (l ++ rest))

pub right-line : (l : List ℕ) → Has line (symbols l) → RightLine l
unfolding line
right-line l h =
    let w = two blanks (seq (alt eps statement) (alt eps comment)) l h in
    let g = blanks_gap w.left w.first in
    let v = two (alt eps statement) (alt eps comment) w.right w.second in
    let s = said v.left v.first in
    let q = quiet v.right v.second in
    let a = p.gaps g s.pieces in
    let e : l ≡ (w.left ++ v.left) ++ v.right =
    w.whole ∙ ap (λ (x : List ℕ). w.left ++ x) v.whole ∙ sym (append_assoc w.left v.left v.right) in
    record {
      no_feed = subst (All NoFeed) (sym e) (p.all_append (p.pieces_no_feed a) q.no_feed);
      shape = λ rest f.
          subst Shape
          (sym (ap (λ (x : List ℕ). line_words 0 (x ++ rest)) e
          ∙ ap (λ (x : List ℕ). line_words 0 x) (append_assoc (w.left ++ v.left) v.right rest)
          ∙ p.pieces_words a (q.off rest f)
          ∙ ap (λ (x : List (List ℕ)). s.words ++ x) (q.silent rest f)
          ∙ append-nil s.words))
          s.shape;
    }
