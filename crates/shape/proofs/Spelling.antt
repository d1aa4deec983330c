-- Words in the grammar: names and keywords, what stands behind them, and signs.
-- Assumes nothing.
use mathlib.Core.Path.{◌≡◌, refl, sym, ap, ◌∙◌, subst}
use mathlib.Core.Logic.{inl, inr, ⊎_elim}
use mathlib.Core.Bool.{Bool, true, false, ◌&&◌}
use mathlib.Core.List.{List, [], ◌∷◌, ◌++◌}
use Prim.Native.Nat.{ℕ, zero, suc}
use lib.Dec.{T}
use mir.Facts.{and_yes}
use Rattle.ground.proofs.Tests.{T-is}
use Rattle.words.specs.Words.{word_byte}
use Rattle.syntax.specs.Regular.{Re, seq, Has}
use Rattle.syntax.specs.Kinds.{Among}
use Rattle.syntax.specs.Grammar.{symbols, sign, letters, keys, word_symbol, up_to, blanks, name, mark}
use Rattle.shape.proofs.Symbols.{Gap, has_own, word_byte_lem}
use Rattle.shape.proofs.Pieces as p
use Rattle.shape.proofs.Pieces.{All, Letter, Off, Pieces}
use Rattle.shape.proofs.Parse.{two, nil, one_of, sign-is, blanks_gap}

-- ---- words

-- a word, of which K holds
pub record Spelt (K : List ℕ → Type 0) (l : List ℕ) : Type 0 where
  pub first : ℕ
  pub others : List ℕ
  pub whole : l ≡ first ∷ others
  pub letters : All Letter (first ∷ others)
  pub kind : K (first ∷ others)

word-one : (l : List ℕ) → Has word_symbol (symbols l) → (b : ℕ) × (l ≡ b ∷ []) × Letter b
unfolding word_symbol
word-one l h = let o = one_of _ l h in (o.0, o.1, word_byte_lem o.0 o.2)

words_up : (n : ℕ) (l : List ℕ) → Has (up_to n) (symbols l) → All Letter l
unfolding up_to Has
words_up zero l h = rw (nil l h) p.none
words_up (suc n) l h =
    ⊎_elim (λ e. rw (nil l e) p.none)
    (λ s.
    let w = two word_symbol (up_to n) l s in
    let o = word-one w.left w.first in
    rw (w.whole, o.1) (p.more o.2 (words_up n w.right w.second)))
    h

-- any word is a name
abbrev pub Any : List ℕ → Type 0
Any w = Unit

name_spelt : (l : List ℕ) → Has (seq word_symbol (up_to 15)) (symbols l) → Spelt Any l
name_spelt l h =
    let w = two word_symbol (up_to 15) l h in
    let o = word-one w.left w.first in
    record {
      first = o.0;
      others = w.right;
      whole = w.whole ∙ ap (λ (x : List ℕ). x ++ w.right) o.1;
      letters = p.more o.2 (words_up 15 w.right w.second);
      kind = tt;
    }

-- letters that have symbols of their own
abbrev pub capitals : List ℕ → Bool
capitals [] = true
capitals (k ∷ l) = (has_own k && word_byte k) && capitals l

letters_are : (w : List ℕ) → T (capitals w) → (l : List ℕ) → Has (letters w) (symbols l) → l ≡ w
unfolding letters Has
letters_are [] t l h = nil l h
letters_are (k ∷ []) t l h = sign-is k (and_yes (has_own k) _ (and_yes (has_own k && word_byte k) _ t).0).0 l h
letters_are (k ∷ j ∷ w) t l h =
    let v = two (sign k) (letters (j ∷ w)) l h in
    let u = and_yes (has_own k && word_byte k) _ t in
    v.whole
    ∙ ap (λ (x : List ℕ). x ++ v.right) (sign-is k (and_yes (has_own k) _ u.0).0 v.left v.first)
    ∙ ap (λ (x : List ℕ). k ∷ x) (letters_are (j ∷ w) u.1 v.right v.second)

all-letters : (w : List ℕ) → T (capitals w) → All Letter w
all-letters [] t = p.none
all-letters (k ∷ w) t =
    let v = and_yes (has_own k && word_byte k) _ t in
    p.more (T-is (word_byte k) (and_yes (has_own k) _ v.0).1) (all-letters w v.1)

abbrev pub keyword : List ℕ → Bool
keyword [] = false
keyword (b ∷ l) = capitals (b ∷ l)

key_spelt : (K : List ℕ → Type 0) (k : List ℕ) → T (keyword k) → K k → (l : List ℕ) → Has (letters k) (symbols l) → Spelt K l
key_spelt K [] t q l h = absurd t
key_spelt K (b ∷ w) t q l h = record {
  first = b;
  others = w;
  whole = letters_are (b ∷ w) t l h;
  letters = all-letters (b ∷ w) t;
  kind = q;
}

-- one of several keywords
abbrev pub keywords : List (List ℕ) → Bool
keywords [] = true
keywords (k ∷ ks) = keyword k && keywords ks

pub keys_spelt : (K : List ℕ → Type 0) (ks : List (List ℕ)) → T (keywords ks) → ((w : List ℕ) → Among ks w → K w)
    → (l : List ℕ) → Has (keys ks) (symbols l) → Spelt K l
unfolding Has keys
keys_spelt K [] t f l h = absurd h
keys_spelt K (k ∷ []) t f l h = key_spelt K k (and_yes (keyword k) _ t).0 (f k (inl refl)) l h
keys_spelt K (k ∷ j ∷ ks) t f l h =
    let u = and_yes (keyword k) _ t in
    ⊎_elim (λ x. key_spelt K k u.0 (f k (inl refl)) l x) (λ x. keys_spelt K (j ∷ ks) u.1 (λ w m. f w (inr m)) l x) h

-- ---- a word or a sign, then blanks, then what follows

pub record Worded (K : List ℕ → Type 0) (r : Re) (l : List ℕ) : Type 0 where
  pub rest : List ℕ
  pub follows : Has r (symbols rest)
  pub word : List ℕ
  pub kind : K word
  pub pieces : {ws : List (List ℕ)} → Off rest → Pieces rest ws → Pieces l (word ∷ ws)

pub worded : {K : List ℕ → Type 0} (q r : Re) → ((l : List ℕ) → Has q (symbols l) → Spelt K l)
    → (l : List ℕ) → Has (seq q (seq blanks r)) (symbols l) → Worded K r l
worded q r f l h =
    let v = two q (seq blanks r) l h in
    let w = f v.left v.first in
    let g = two blanks r v.right v.second in
    let a = blanks_gap g.left g.first in
    let e : l ≡ (w.first ∷ w.others) ++ (g.left ++ g.right) =
    v.whole ∙ ap (λ (x : List ℕ). x ++ v.right) w.whole ∙ ap (λ (x : List ℕ). (w.first ∷ w.others) ++ x) g.whole in
    record {
      rest = g.right;
      follows = g.second;
      word = w.first ∷ w.others;
      kind = w.kind;
      pieces = λ o m. p.pieces_of e (p.name w.letters (p.gaps_off a o) (p.gaps a m));
    }

pub named : (r : Re) (l : List ℕ) → Has (name r) (symbols l) → Worded Any r l
unfolding name
named r l h = worded (seq word_symbol (up_to 15)) r name_spelt l h

pub record SpelledMark (r : Re) (l : List ℕ) : Type 0 where
  pub rest : List ℕ
  pub follows : Has r (symbols rest)
  pub off : Off l
  pub pieces : {ws : List (List ℕ)} → Pieces rest ws → Pieces l ws

pub marked : (k : ℕ) (r : Re) (l : List ℕ) → T (has_own k) → Gap k → Has (mark k r) (symbols l) → SpelledMark r l
unfolding mark
marked k r l t i h =
    let v = two (sign k) (seq blanks r) l h in
    let g = two blanks r v.right v.second in
    let e : l ≡ k ∷ (g.left ++ g.right) =
    v.whole ∙ ap (λ (x : List ℕ). x ++ v.right) (sign-is k t v.left v.first) ∙ ap (λ (x : List ℕ). k ∷ x) g.whole in
    record {
      rest = g.right;
      follows = g.second;
      off = subst Off (sym e) (p.on i.off);
      pieces = λ m. p.pieces_of e (p.gap i (p.gaps (blanks_gap g.left g.first) m));
    }
