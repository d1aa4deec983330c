-- Each symbol of the grammar is that of some byte: what goes on in symbols goes on in bytes.
-- Assumes nothing.
use mathlib.Core.Path.{◌≡◌, refl, sym, ap, ◌∙◌, subst}
use mathlib.Core.Logic.{⊎_elim}
use mathlib.Core.Bool.{Bool, true, false, ◌&&◌, ◌||◌, false≢true}
use mathlib.Core.List.{List, [], ◌∷◌, ◌++◌, map, map-append}
use Prim.Native.Nat.{ℕ}
use lib.Dec.{eqb}
use lib.ListN.{get_or, drop}
use borrow.Author.Tests.{eqb-true}
use Rattle.ground.proofs.Tests.{both, T-is}
use Rattle.words.specs.Words.{within, word_byte}
use Rattle.syntax.specs.Regular.{Re, none, eps, one, seq, alt, star, has, Many, stop, more, Has}
use Rattle.syntax.specs.Kinds.{input_word, output_word, kinds, kind_words}
use Rattle.syntax.specs.Grammar.{signs, place_in, symbol, symbols, letters, keys, word_symbol, up_to, blanks, name, mark, close, one_argument, two_arguments, gate, statement, comment, line, bench}
use Rattle.syntax.specs.Syntax.{Formed}

-- a byte of each symbol
unfoldable byte_of : ℕ → ℕ
byte_of c = get_or (32 ∷ signs ++ (48 ∷ 33 ∷ [])) c 0

-- the symbol of that byte
back : ℕ → ℕ
back c = symbol (byte_of c)

-- every symbol in the list, or in the grammar, is that of its byte
all_spelt : List ℕ → Bool
all_spelt [] = true
all_spelt (x ∷ l) = eqb (back x) x && all_spelt l

spelt : Re → Bool
spelt none = true
spelt eps = true
spelt (one s) = all_spelt s
spelt (seq r s) = spelt r && spelt s
spelt (alt r s) = spelt r && spelt s
spelt (star r) = spelt r

one-back : (s : List ℕ) (c : ℕ) → all_spelt s ≡ true → has s c ≡ true → back c ≡ c
unfolding all_spelt has
one-back [] c a e = absurd (false≢true e)
one-back (x ∷ l) c a e = let b = both (eqb (back x) x) (all_spelt l) a in go (eqb x c) refl b.0 (one-back l c b.1) e
  where
    go : (t : Bool) → eqb x c ≡ t → eqb (back x) x ≡ true → (has l c ≡ true → back c ≡ c) → (t || has l c) ≡ true → back c ≡ c
    go true q here rest e = subst (λ (y : ℕ). back y ≡ y) (eqb-true x c q) (eqb-true (back x) x here)
    go false q here rest e = rest e

join_back : (u v : List ℕ) → map back u ≡ u → map back v ≡ v → map back (u ++ v) ≡ u ++ v
join_back u v p q = map-append back u v ∙ ap (λ (l : List ℕ). l ++ map back v) p ∙ ap (λ (l : List ℕ). u ++ l) q

Back : List ℕ → Type 0
Back w = map back w ≡ w

many_back : (r : Re) → ((w : List ℕ) → Has r w → Back w) → {w : List ℕ} → Many (Has r) w → Back w
unfolding Back
many_back r ih stop = refl
many_back r ih (more u v e h m) = subst Back (sym e) (join_back u v (ih u h) (many_back r ih m))

has-back : (r : Re) → spelt r ≡ true → (w : List ℕ) → Has r w → Back w
unfolding spelt Has Back
has-back none a w h = absurd h
has-back eps a w h = subst Back (sym h) refl
has-back (one s) a w (c, m, e) = subst Back (sym e) (ap (λ (y : ℕ). y ∷ []) (one-back s c a (T-is (has s c) m)))
has-back (seq r s) a w (u, v, e, h, k) =
    let b = both (spelt r) (spelt s) a in
    subst Back (sym e) (join_back u v (has-back r b.0 u h) (has-back s b.1 v k))
has-back (alt r s) a w h =
    let b = both (spelt r) (spelt s) a in
    ⊎_elim (has-back r b.0 w) (has-back s b.1 w) h
has-back (star r) a w h = many_back r (has-back r a) h

bench_spelt : spelt bench ≡ true
unfolding spelt all_spelt back byte_of has
    signs within word_byte place_in symbol letters keys input_word output_word kinds kind_words word_symbol up_to blanks name mark close one_argument two_arguments gate statement comment line bench
bench_spelt = refl

later : (a w : List ℕ) → map back (a ++ w) ≡ a ++ w → map back w ≡ w
later [] w e = e
later (x ∷ a) w e = later a w (ap (drop 1) e)

map-map : (w : List ℕ) → map symbol (map byte_of w) ≡ map back w
unfolding back
map-map [] = refl
map-map (c ∷ w) = ap (λ (l : List ℕ). back c ∷ l) (map-map w)

-- bytes u that go on by the symbols w go on by bytes
pub in_bytes : (u w : List ℕ) → Has bench (symbols u ++ w) → (v : List ℕ) × Formed (u ++ v)
unfolding Formed Back
in_bytes u w h =
    let e : map back w ≡ w = later (symbols u) w (has-back bench bench_spelt (symbols u ++ w) h) in
    (map byte_of w, subst (Has bench) (sym (map-append symbol u (map byte_of w) ∙ ap (λ (l : List ℕ). symbols u ++ l) (map-map w ∙ e))) h)
